use Rattle.std.proofs.Common.{◌≡◌, ℕ, length, sym, subst, refl}
use Rattle.pfr_flash.specs.FlashState.{FlashState, now, size_of}
use Rattle.pfr_flash.specs.Layout.{IsValidLayout}
use Rattle.pfr_flash.specs.declared.layout.Layout.{Layout}
use Rattle.pfr_flash.proofs.EndsLemmas.{ends_content}
use Rattle.pfr_flash.proofs.HoldingLemmas.{now_bytes}
use Rattle.pfr_flash.proofs.RangeLemmas.{length-now}
use Rattle.pfr_manifest.proofs.StretchLemmas.{manifest_table}
use Rattle.pfr_manifest.specs.declared.manifest.Manifest.{Manifest}
use Rattle.pfr_bank.specs.Spelling.{StillSpells}
use Rattle.pfr_bank.proofs.SpellingLaw.{judged_spells}
use Rattle.pfr_bank.proofs.held.Held.check.Goals as goal

-- what reading leaves spells what it spelled
still_spells : (old new : FlashState) (m : Manifest) (laid layout : Layout) → now new ≡ now old → layout ≡ laid → StillSpells (now old) m laid → StillSpells (now new) m layout
still_spells old new m laid layout same is h = rw (same, is) h

valid_here : (d : FlashState) (laid layout : Layout) → layout ≡ laid → IsValidLayout layout (size_of d) → IsValidLayout laid (length (now d))
valid_here d laid layout is valid = subst (λ (size : ℕ). IsValidLayout laid size) (sym (length-now d)) (subst (λ (l : Layout). IsValidLayout l (size_of d)) is valid)

pub keep-requires : goal.keep-requires
keep-requires g c =
    let old : FlashState = g.F.Flash.device c.args.self.flash in
    manifest_table _ c.in-Ok.manifest _ _ (judged_spells (now old) c.args.self.bank c.args.fuses.now _ c.in-Ok.manifest (now_bytes old (g.met.F.Flash.holds_bytes c.args.self.flash))
    (valid_here old _ c.args.layout.now c.requires.layout c.requires.valid) c.in-Ok.ensures.exact).spelled

pub invariant_of-result : goal.invariant_of-result
invariant_of-result g c =
    let old : FlashState = g.F.Flash.device c.args.self.flash in
    rw c.keep.ensures (
      still_spells old (g.F.Flash.device c.active.new.flash) c.in-Ok.manifest _ c.args.layout.now (ends_content c.active.ensures.ends) c.requires.layout
          (judged_spells (now old) c.args.self.bank c.args.fuses.now _ c.in-Ok.manifest (now_bytes old (g.met.F.Flash.holds_bytes c.args.self.flash))
          (valid_here old _ c.args.layout.now c.requires.layout c.requires.valid) c.in-Ok.ensures.exact),
      refl,
    )

pub returns-in-Ok-clause-ok : goal.returns-in-Ok-clause-ok
returns-in-Ok-clause-ok g c = rw c.keep.ensures c.in-Ok.ensures.ok

pub returns-in-Ok-clause-lasts : goal.returns-in-Ok-clause-lasts
returns-in-Ok-clause-lasts g c = rw c.keep.ensures c.in-Ok.ensures.lasts

pub returns-in-Ok-clause-only : goal.returns-in-Ok-clause-only
returns-in-Ok-clause-only g c = rw c.keep.ensures c.in-Ok.ensures.only
