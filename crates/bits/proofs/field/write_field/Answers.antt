use Rattle.std.proofs.Common.{ℕ, ap, ◌∙◌, subst, ◌/◌, ◌^◌, ◌%◌}
use Rattle.bits.specs.Field.{Written}
use Rattle.bits.proofs.Fields.{span_written, reads_back, keeps_others, bits_are_all}
use Rattle.bits.proofs.field.write_field.Goals as goal

pub returns : goal.returns
returns c =
    let s = c.of_field-span in
    record {
      written = subst (λ (w : ℕ). Written c.args.bytes.now c.write.new.bytes c.args.offset w c.args.value) s.ensures.width
          (span_written c.args.offset s.result.first s.result.end s.result.width s.result.rest s.ensures.begins s.ensures.ends
          c.args.bytes.now c.write.new.bytes c.patched-number.result c.args.value c.patched-number.ensures.inside
          (λ k out. c.patched-number.ensures.outside k out ∙ ap (λ (n : ℕ). n / 2 ^ k % 2) c.number.ensures) c.write.ensures);
      back = reads_back;
      others = keeps_others;
      all = bits_are_all;
    }
