use Rattle.std.proofs.Common.{◌≡◌, ℕ, ◌+◌, ◌-◌, ◌*◌, ◌/◌, ◌%◌, [], ◌∷◌, length, take, arith, length-take, ◌∙◌, ap}
use Rattle.pfr_flash.specs.Bytes.{bytes_at}
use Rattle.pfr_flash.specs.FlashState.{now}
use Rattle.pfr_flash.proofs.RangeLemmas.{length-now}
use Rattle.pfr_capsule.proofs.PageLaws.{copied_in_stretch}
use Rattle.pfr_capsule.proofs.pages.Pages.copied_before.Goals as goal

pub overflow_add-self : goal.overflow_add-self
overflow_add-self g c = omega (arith, c.requires.index.copy_inside, length-now (g.F.Flash.device c.args.flash.now))

pub read-requires : goal.read-requires
read-requires g c = omega (arith, c.requires.index.whole, c.requires.index.copy_inside, length-now (g.F.Flash.device c.args.flash.now), length-take {A = ℕ})

pub returns-clause-found : goal.returns-clause-found
returns-clause-found g c =
    let long : length (take (c.args.n / 8 % 8 + 1 - 0) (0 ∷ 0 ∷ 0 ∷ 0 ∷ 0 ∷ 0 ∷ 0 ∷ 0 ∷ [])) ≡ c.args.n / 8 % 8 + 1 = omega (arith, length-take {A = ℕ}) in
    copied_in_stretch (now (g.F.Flash.device c.args.flash.now)) _ c.args.self.now c.args.n _ c.requires.index c.requires.inside
    (c.in_ok-read.ensures.bytes ∙ ap (λ (k : ℕ). bytes_at (now (g.F.Flash.device c.args.flash.now)) (c.args.self.now.copy_at + c.args.n / 64 * 8) k) long) c.copied_in.ensures
