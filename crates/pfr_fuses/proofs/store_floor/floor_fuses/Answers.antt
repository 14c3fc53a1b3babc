use Rattle.std.proofs.Common.{◌≡◌, ◌∙◌, ℕ, ◌-◌, ◌≤◌, length, take, replicate, sym, ap, arith}
use Rattle.std.proofs.lemmas.List.{length-take, length-replicate}
use Rattle.pfr_flash.specs.Bytes.{bytes_at}
use Rattle.pfr_fuses.specs.FusesOf.{floor_fuses}
use Rattle.pfr_fuses.proofs.FloorLemmas.{kept_row}
use Rattle.pfr_fuses.proofs.store_floor.floor_fuses.Goals as goal

pub returns : goal.returns
unfolding floor_fuses
returns c =
    let width = c.floor_width-width.result in
    let narrow : width ≤ 16 = c.floor_width-width.ensures.most in
    let asked : length {A = ℕ} (take (width - 0) (replicate 16 255)) ≡ width = simp (length-take, length-replicate) (omega (arith, narrow)) in
    let read = c.copy_from_slice.ensures.after ∙ c.part.ensures.part ∙ ap (λ (m : ℕ). bytes_at c.args.store.now c.floor_at-at.result m) (sym asked) in
    let kept = kept_row c.args.store.now c.floor_at-at.result width 16 _ _ c.new.ensures read (omega (arith, c.part.ensures.long)) narrow in
    rw (← c.requires.profile, ← c.floor_at-at.ensures.place, ← c.floor_width-width.ensures.width) kept
