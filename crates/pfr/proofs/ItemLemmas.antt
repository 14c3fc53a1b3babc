-- The next item of a script can be done.
use Rattle.std.proofs.Common.{◌≡◌, ◌∙◌, ap, refl, subst, ℕ, ◌+◌, ◌<◌, cond, List, ◌∷◌, length, drop, slice_index_or, arith}
use Rattle.std.proofs.lemmas.List.{drop_more}
use Rattle.std.proofs.lemmas.List.Sums.{sum_by-cons}
use Rattle.pfr_flash.specs.declared.names.Device.{Device}
use Rattle.pfr_flash.specs.declared.names.Device.TheVariants as device
use Rattle.pfr_script.specs.Arms.{arms_in, is_arm_of}
use Rattle.pfr_script.specs.declared.arm.ArmWhat.{ArmWhat}
use Rattle.pfr_script.specs.declared.arm.ArmWhat.TheVariants.{Cut, Fault, ReadFault}
use Rattle.pfr_script.specs.declared.item.Item.{Item}
use Rattle.pfr_script.specs.declared.item.Item.TheVariants as item
use Rattle.pfr_story.specs.World.{World}
use Rattle.pfr_story.specs.Run.{CanRun, takes_arm}
use Rattle.pfr.specs.Played.{CanDo}

-- the arms that an item takes of a device
abbrev pub arms_of : Device → Item → ℕ
arms_of which i = cond (is_arm_of which i) 1 0

arms_first : (which : Device) (i : Item) (items : List Item) → arms_in which (i ∷ items) ≡ arms_of which i + arms_in which items
arms_first which i items = sum_by-cons (arms_of which) i items

-- of its own device an arm takes what it needs
arms_own : (d : Device) (what : ArmWhat) (nth tear : ℕ) → arms_of d (item.Arm (record { device = d; what = what; nth = nth; tear = tear })) ≡ takes_arm what
arms_own device.Bmc Cut nth tear = refl
arms_own device.Bmc Fault nth tear = refl
arms_own device.Bmc ReadFault nth tear = refl
arms_own device.Pch Cut nth tear = refl
arms_own device.Pch Fault nth tear = refl
arms_own device.Pch ReadFault nth tear = refl
arms_own device.Nv Cut nth tear = refl
arms_own device.Nv Fault nth tear = refl
arms_own device.Nv ReadFault nth tear = refl

can_first : (tears : ℕ) (i : Item) (items : List Item) (w : World) → CanRun tears (i ∷ items) w → CanDo tears i w
can_first tears (item.Event e) items w can = tt
can_first tears (item.Arm arm) items w can = (can.known 0 (item.Arm arm) (omega arith), omega (arith, can.arms arm.device, arms_first arm.device (item.Arm arm) items, arms_own arm.device arm.what arm.nth arm.tear))

can_drop : (tears : ℕ) (items : List Item) (k : ℕ) (i : Item) (w : World) → k < length items → slice_index_or items k i ≡ i → CanRun tears (drop k items) w → CanRun tears (i ∷ drop (k + 1) items) w
can_drop tears items k i w h e can = subst (λ (xs : List Item). CanRun tears xs w) (drop_more items k i h ∙ ap (λ (x : Item). x ∷ drop (k + 1) items) e) can

pub CanDo-next : (tears : ℕ) (items : List Item) (k : ℕ) (i : Item) (w : World) → k < length items → slice_index_or items k i ≡ i → CanRun tears (drop k items) w → CanDo tears i w
CanDo-next tears items k i w h e can = can_first tears i (drop (k + 1) items) w (can_drop tears items k i w h e can)

pub few_next : (tears : ℕ) (items : List Item) (k : ℕ) (i : Item) (w : World) → k < length items → slice_index_or items k i ≡ i → CanRun tears (drop k items) w → w.item < 67108863
few_next tears items k i w h e can = let c = can_drop tears items k i w h e can in let f = c.few in omega arith
