-- While a bank is brought up, a store that can be read stays of profile 2.
use Rattle.std.proofs.Common.{◌≡◌, ◌∙◌, ap, sym, subst, ℕ, List, length}
use Rattle.pfr_flash.specs.Operation.{Operation, applied}
use Rattle.pfr_flash.specs.declared.flash.FlashFail.{FlashFail}
use Rattle.pfr_flash.specs.declared.names.Bank.{Bank}
use Rattle.pfr_flash.specs.declared.names.Bank.TheVariants as bank
use Rattle.pfr_flash.specs.declared.names.Device.{Device}
use Rattle.pfr_flash.specs.declared.names.Device.TheVariants as device
use Rattle.pfr_flash.proofs.PlayLemmas.{length-applied}
use Rattle.pfr_engine.specs.Acceptance.{Acceptance}
use Rattle.pfr_fuses.specs.Changes.{SameProvision}
use Rattle.pfr_story.specs.Goes.{Stopped}
use Rattle.pfr_story.specs.Plans.{store, brought_up}
use Rattle.pfr_story.specs.Safety.{Rule, AllSafe, Keeps}
use Rattle.pfr_story.specs.Story.{Story, Says, Does, Asks, after, operated, device_of}
use Rattle.pfr_story.specs.World.{World, story_of}
use Rattle.pfr_story.proofs.BringAllowed.{AllowsBank, allowed_safe}
use Rattle.pfr_story.proofs.JobLeaves.{two_same, log_same, raise_same}
use Rattle.pfr_story.proofs.SafetyLaws.{image_operated, safe_whole, safe_cut, kept_by}
use Rattle.pfr_story.proofs.SpanRules.{NotOne}

-- an operation of the store leaves its slots and its profile
abbrev Leaving : Rule
Leaving (Says w) story = Unit {0}
Leaving (Does device.Bmc op) story = Unit {0}
Leaving (Does device.Pch op) story = Unit {0}
Leaving (Does device.Nv op) story = length (store story) ≡ 32768 → SameProvision (store story) (applied (store story) op)
Leaving (Asks which) story = Unit {0}

-- the store has its size, and is of profile 2 if it can be read
pub record IsTwo (story : Story) : Type 0 where
  pub size : length (store story) ≡ 32768
  pub two : NotOne (store story)

own_leaving : (b : Bank) (op : Operation) (story : Story) → Leaving (Does (device_of b) op) story
own_leaving bank.Bmc op story = tt
own_leaving bank.Pch op story = tt

leaving_bank : (b : Bank) → AllowsBank Leaving b
leaving_bank b = record {
  released = λ svn story. tt;
  locked = λ cause story. tt;
  untrusted = λ cause story. tt;
  jobs = record {
    asks = λ which story own. tt;
    works = λ op story. own_leaving b op story;
    logs = λ op story own size. log_same b (store story) op own size;
    raises = λ op story raise size. raise_same b (store story) op raise size;
  };
  tells = record {
    resumed = λ kind story. tt;
    given_up = λ story. tt;
    restored = λ level story. tt;
    updated = λ dynamic svn story. tt;
    recovery_updated = λ svn story. tt;
  };
}

two_moves : Keeps Leaving IsTwo
two_moves (Says w) story g p = record { size = p.size; two = p.two }
two_moves (Does device.Bmc op) story g p = record { size = p.size; two = p.two }
two_moves (Does device.Pch op) story g p = record { size = p.size; two = p.two }
two_moves (Does device.Nv op) story g p =
    let is : store (operated device.Nv op story) ≡ applied (store story) op = image_operated device.Nv op story in
    record {
      size = ap (λ (image : List ℕ). length image) is ∙ length-applied (store story) op ∙ p.size;
      two = subst NotOne (sym is) (two_same (store story) (applied (store story) op) (g p.size) p.two);
    }
two_moves (Asks which) story g p = p

module _ (accepts : Acceptance) (b : Bank) (story : Story) (p : IsTwo story) where
  leaves : AllSafe Leaving (brought_up accepts b story) story
  leaves = allowed_safe Leaving accepts b (leaving_bank b) story p.size tt

  pub brought_two : IsTwo (after (brought_up accepts b story) story)
  brought_two = kept_by Leaving IsTwo two_moves (brought_up accepts b story) story (safe_whole Leaving (brought_up accepts b story) story leaves) p

-- also where it was cut short
pub stopped_two : (accepts : Acceptance) (b : Bank) (which : Device) (fail : FlashFail) (old at : World) → Stopped (brought_up accepts b (story_of old)) which fail old at → IsTwo (story_of old) → IsTwo (story_of at)
stopped_two accepts b which fail old at s p =
    subst IsTwo (sym s.is)
    (kept_by Leaving IsTwo two_moves s.trace (story_of old)
    (safe_cut Leaving which (brought_up accepts b (story_of old)) s.trace (story_of old) (leaves accepts b (story_of old) p) s.cut) p)
