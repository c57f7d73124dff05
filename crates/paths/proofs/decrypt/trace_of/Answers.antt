use Rattle.std.proofs.Common.{◌≡◌, ℕ, ◌<◌, get_or, ap, ◌∙◌, rules}
use Rattle.cipher.specs.declared.Mode.{Mode}
use Rattle.schedule.specs.declared.key.KeySchedule.{KeySchedule}
use Rattle.schedule.specs.Schedule.{table, key_after, key_schedule}
use Rattle.paths.specs.declared.decrypt.State.{State}
use Rattle.paths.specs.Data.{under}
use Rattle.paths.proofs.Rows.{row_of, rows_from}
use Rattle.paths.proofs.decrypt.trace_of.Goals as goal

at : (c : goal.After-from_fn) (d : State) (i : ℕ) → i < 9
    → get_or c.from_fn.result i d
    ≡ record { block = get_or c.states-blocks.result i 0; tweak = get_or c.new-schedules.result.tweaks.states i 0; key = get_or c.key_states-keys.result i 0 }
at c d i l = let h = c.from_fn.ensures.items.at i d l in search rules

pub returns : goal.returns
returns c =
    let p = c.args.path in
    let k : ℕ = c.args.key in
    let t : ℕ = c.args.tweak in
    let made =
    c.new-schedules.ensures
    ∙ ap (λ (s : KeySchedule). under s t) (c.key_schedule.ensures ∙ ap (λ (v : Mode). key_schedule v k) c.cipher-cipher.ensures) in
    let keys = c.key_states-keys.ensures ∙ ap (λ (v : Mode). table 9 (key_after v k)) c.cipher-cipher.ensures in
    rows_from p k t c.args.x c.from_fn.result c.from_fn.ensures.items.long
    (λ i l. at c _ i l ∙ row_of p k t c.args.x c.new-schedules.result c.states-blocks.result c.key_states-keys.result made c.states-blocks.ensures keys i l)
