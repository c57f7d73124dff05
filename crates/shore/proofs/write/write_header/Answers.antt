use Rattle.std.proofs.Common.{ap, ◌∙◌}
use Rattle.cipher.specs.Word.{mode_number}
use Rattle.image.specs.Reading.{head_of}
use Rattle.shore.proofs.Writing.{head_written, header_proper, written_as}
use Rattle.shore.proofs.write.write_header.Goals as goal

pub returns : goal.returns
returns c =
    let h = c.args.header.now in
    head_written (head_of h) (header_proper h) c.args.buffer.now c.write_field.new.bytes c.write_field-2.new.bytes c.write_field-3.new.bytes
    c.write_field-4.new.bytes c.write_field-5.new.bytes c.write_field-6.new.bytes
    c.write_field.ensures.written
    (written_as _ _ 2 1 c.from.result _ (c.from.ensures ∙ ap mode_number c.mode.ensures) c.write_field-2.ensures.written)
    (written_as _ _ 3 5 c.tag_length.result _ c.tag_length.ensures c.write_field-3.ensures.written)
    (written_as _ _ 8 8 c.version.result _ c.version.ensures c.write_field-4.ensures.written)
    (written_as _ _ 16 30 c.base.result _ c.base.ensures c.write_field-5.ensures.written)
    (written_as _ _ 46 20 c.count.result _ c.count.ensures c.write_field-6.ensures.written)
