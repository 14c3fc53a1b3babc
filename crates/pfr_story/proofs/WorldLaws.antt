-- What devices do from one world to the next, and why a call failed.
use Rattle.std.proofs.Common.{◌≡◌, ◌≢◌, ◌∙◌, ◌+◌, ◌≤◌, refl, ap, ℕ, arith, ◌⊎◌, inl, inr, true, false}
use Rattle.std.proofs.lemmas.Bool.{cases_Bool}
use Rattle.pfr_flash.specs.FlashState.{FlashState, raised_by}
use Rattle.pfr_flash.specs.Moved.{Moved, was_done}
use Rattle.pfr_flash.specs.declared.flash.FlashFail.{FlashFail}
use Rattle.pfr_flash.specs.declared.flash.FlashFail.TheVariants.{Fault, Lost}
use Rattle.pfr_flash.specs.declared.names.Device.{Device}
use Rattle.pfr_flash.specs.declared.names.Device.TheVariants as device
use Rattle.pfr_flash.proofs.MovedLemmas.{Moved-refl, Moved-trans}
use Rattle.pfr_story.specs.World.{World, state_at, AllMoved, NoneFailed, NoneLost, LostAt, Caused}

-- ---- what the devices did
pub AllMoved-refl : (w : World) → AllMoved w w
AllMoved-refl w = record { bmc = Moved-refl w.bmc; pch = Moved-refl w.pch; nv = Moved-refl w.nv }

pub AllMoved-trans : (a b c : World) → AllMoved a b → AllMoved b c → AllMoved a c
AllMoved-trans a b c p q = record {
  bmc = Moved-trans a.bmc b.bmc c.bmc p.bmc q.bmc;
  pch = Moved-trans a.pch b.pch c.pch p.pch q.pch;
  nv = Moved-trans a.nv b.nv c.nv p.nv q.nv;
}

pub Moved-at : (which : Device) (a b : World) → AllMoved a b → Moved (state_at which a) (state_at which b)
Moved-at device.Bmc a b p = p.bmc
Moved-at device.Pch a b p = p.pch
Moved-at device.Nv a b p = p.nv

-- faults never fall, and neither do losses
pub faults_moved : (which : Device) (a b : World) → AllMoved a b → (state_at which a).faults ≤ (state_at which b).faults
faults_moved which a b p = (Moved-at which a b p).faults

losses_of : (old new : FlashState) → Moved old new → old.losses ≤ new.losses
losses_of old new h = by_case (cases_Bool (was_done old new old.cut_due))
  where
    by_case : ((was_done old new old.cut_due ≡ true) ⊎ (was_done old new old.cut_due ≡ false)) → old.losses ≤ new.losses
    by_case (inl done) = let e : new.losses ≡ old.losses + 1 = rw done at h.losses in omega (arith, e)
    by_case (inr not_done) = let e : new.losses ≡ old.losses = rw not_done at h.losses in omega (arith, e)

pub losses_moved : (which : Device) (a b : World) → AllMoved a b → (state_at which a).losses ≤ (state_at which b).losses
losses_moved which a b p = losses_of (state_at which a) (state_at which b) (Moved-at which a b p)

-- ---- no loss and no fault
pub NoneLost-refl : (w : World) → NoneLost w w
NoneLost-refl w = record { bmc = refl; pch = refl; nv = refl }

pub NoneLost-trans : (a b c : World) → NoneLost a b → NoneLost b c → NoneLost a c
NoneLost-trans a b c p q = record { bmc = q.bmc ∙ p.bmc; pch = q.pch ∙ p.pch; nv = q.nv ∙ p.nv }

pub NoneLost-at : (which : Device) (a b : World) → NoneLost a b → (state_at which b).losses ≡ (state_at which a).losses
NoneLost-at device.Bmc a b p = p.bmc
NoneLost-at device.Pch a b p = p.pch
NoneLost-at device.Nv a b p = p.nv

pub NoneFailed-refl : (w : World) → NoneFailed w w
NoneFailed-refl w = record { bmc = refl; pch = refl; nv = refl }

pub NoneFailed-trans : (a b c : World) → NoneFailed a b → NoneFailed b c → NoneFailed a c
NoneFailed-trans a b c p q = record { bmc = q.bmc ∙ p.bmc; pch = q.pch ∙ p.pch; nv = q.nv ∙ p.nv }

pub NoneFailed-at : (which : Device) (a b : World) → NoneFailed a b → (state_at which b).faults ≡ (state_at which a).faults
NoneFailed-at device.Bmc a b p = p.bmc
NoneFailed-at device.Pch a b p = p.pch
NoneFailed-at device.Nv a b p = p.nv

-- ---- why a call failed
pub LostAt-later : (which : Device) (a b c : World) → NoneLost a b → LostAt which b c → LostAt which a c
LostAt-later which a b c l p = record {
  once = p.once ∙ ap (λ (n : ℕ). n + 1) (NoneLost-at which a b l);
  others = λ other no. p.others other no ∙ NoneLost-at other a b l;
}

pub LostAt-on : (which : Device) (a b c : World) → LostAt which a b → NoneLost b c → LostAt which a c
LostAt-on which a b c p l = record {
  once = NoneLost-at which b c l ∙ p.once;
  others = λ other no. NoneLost-at other b c l ∙ p.others other no;
}

-- what was done before without a loss or a fault changes nothing of it
pub Caused-later : (which : Device) (fail : FlashFail) (a b c : World) → NoneLost a b → NoneFailed a b → Caused which fail b c → Caused which fail a c
Caused-later which Fault a b c l f p = (
  record {
    once = p.0.once ∙ ap (λ (n : ℕ). raised_by n 1) (NoneFailed-at which a b f);
    others = λ other no. p.0.others other no ∙ NoneFailed-at other a b f;
  },
  NoneLost-trans a b c l p.1,
)
Caused-later which Lost a b c l f p = (LostAt-later which a b c l p.0, NoneFailed-trans a b c f p.1)

-- each device is this one, or another
pub each_at : (which other : Device) → (other ≡ which) ⊎ (other ≢ which)
each_at device.Bmc device.Bmc = inl refl
each_at device.Pch device.Pch = inl refl
each_at device.Nv device.Nv = inl refl
each_at device.Bmc device.Pch = inr (λ e. cc)
each_at device.Bmc device.Nv = inr (λ e. cc)
each_at device.Pch device.Bmc = inr (λ e. cc)
each_at device.Pch device.Nv = inr (λ e. cc)
each_at device.Nv device.Bmc = inr (λ e. cc)
each_at device.Nv device.Pch = inr (λ e. cc)
