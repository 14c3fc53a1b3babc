-- Many ticks: a watch expires exactly by those with which their sum reaches what was left.
use Rattle.std.proofs.Common.{◌≡◌, ◌∙◌, ℕ, ◌+◌, ◌-◌, ◌<◌, Bool, true, false, List, [], ◌∷◌, refl, ap, arith}
use Rattle.std.specs.Prelude.{◌≢◌, sum, nat_lt, nat_le, if◌then◌else◌}
use Rattle.std.proofs.lemmas.List.Sums.{sum_by-cons}
use Rattle.pfr_flash.specs.declared.names.Bank.TheVariants as bank
use Rattle.pfr_watch.specs.declared.stage.Stage.{Stage}
use Rattle.pfr_watch.specs.declared.stage.Stage.TheVariants.{Bmc, Me, Acm, Ibb, Obb, Done}
use Rattle.pfr_watch.specs.declared.watch.Watch.{Watch}
use Rattle.pfr_watch.specs.Watching.{at_stage, begun, unless_done, expires, ticked, passed}

-- after ticks, in turn
abbrev pub ticked_all : Watch → List ℕ → Watch
ticked_all watch [] = watch
ticked_all watch (n ∷ ns) = ticked_all (ticked watch n) ns

-- some of these ticks, in turn, end the stage's time
abbrev pub expires_by : Watch → List ℕ → Bool
expires_by watch [] = false
expires_by watch (n ∷ ns) = if expires watch n then true else expires_by (ticked watch n) ns

going : {A : Type 0} (stage : Stage) → stage ≢ Done → (here there : A) → unless_done stage here there ≡ here
going Bmc isnt here there = refl
going Me isnt here there = refl
going Acm isnt here there = refl
going Ibb isnt here there = refl
going Obb isnt here there = refl
going Done isnt here there = absurd (isnt refl)

less : (left n : ℕ) → n < left → nat_lt n left ≡ true
less left n below = search (arith, below)

over : (left n : ℕ) → n < left → nat_le left n ≡ false
over left n below = grind (arith, below)

-- Ticks of which fewer come than are left: what is left falls by them.
ticked_less : (watch : Watch) (n : ℕ) → watch.stage ≢ Done → n < watch.left → ticked watch n ≡ record watch { left = watch.left - n }
ticked_less watch n isnt below =
    going watch.stage isnt (if nat_lt n watch.left then record watch { left = watch.left - n } else watch) watch
    ∙ ap (λ (b : Bool). if b then record watch { left = watch.left - n } else watch) (less watch.left n below)

-- Ticks that sum to less than is left take their sum from it.
pub ticked_below : (watch : Watch) (ns : List ℕ) → watch.stage ≢ Done → sum ns < watch.left → ticked_all watch ns ≡ record watch { left = watch.left - sum ns }
ticked_below watch [] isnt below =
    let same : watch.left ≡ watch.left - 0 = omega arith in
    ap (λ (k : ℕ). record watch { left = k }) same
ticked_below watch (n ∷ ns) isnt below =
    let both : sum (n ∷ ns) ≡ n + sum ns = sum_by-cons (λ (k : ℕ). k) n ns in
    let first : n < watch.left = omega (arith, below, both) in
    let later : sum ns < watch.left - n = omega (arith, below, both) in
    let whole : watch.left - n - sum ns ≡ watch.left - sum (n ∷ ns) = omega (arith, both) in
    ap (λ (w : Watch). ticked_all w ns) (ticked_less watch n isnt first)
    ∙ ticked_below (record watch { left = watch.left - n }) ns isnt later
    ∙ ap (λ (k : ℕ). record watch { left = k }) whole

-- A watch never expires by ticks that sum to less than is left.
pub never_expires : (watch : Watch) (ns : List ℕ) → watch.stage ≢ Done → sum ns < watch.left → expires_by watch ns ≡ false
never_expires watch [] isnt below = refl
never_expires watch (n ∷ ns) isnt below =
    let both : sum (n ∷ ns) ≡ n + sum ns = sum_by-cons (λ (k : ℕ). k) n ns in
    let first : n < watch.left = omega (arith, below, both) in
    let later : sum ns < watch.left - n = omega (arith, below, both) in
    let stays : expires watch n ≡ false = going watch.stage isnt (nat_le watch.left n) false ∙ over watch.left n first in
    ap (λ (b : Bool). if b then true else expires_by (ticked watch n) ns) stays
    ∙ ap (λ (w : Watch). expires_by w ns) (ticked_less watch n isnt first)
    ∙ never_expires (record watch { left = watch.left - n }) ns isnt later

moved : (left gone n : ℕ) → gone < left → nat_le (left - gone) n ≡ nat_le left (gone + n)
moved left gone n below = grind (arith, below)

-- Behind such ticks it expires by the next ones exactly where the sum with them reaches what was left.
pub expires_behind : (watch : Watch) (ns : List ℕ) (n : ℕ) → watch.stage ≢ Done → sum ns < watch.left → expires (ticked_all watch ns) n ≡ nat_le watch.left (sum ns + n)
expires_behind watch ns n isnt below =
    ap (λ (w : Watch). expires w n) (ticked_below watch ns isnt below)
    ∙ going watch.stage isnt (nat_le (watch.left - sum ns) n) false
    ∙ moved watch.left (sum ns) n below

-- In a boot that is done no ticks change anything, and none expire.
pub done_stays : (watch : Watch) (ns : List ℕ) → watch.stage ≡ Done → ticked_all watch ns ≡ watch
done_stays watch [] is = refl
done_stays watch (n ∷ ns) is =
    let counted : Watch = if nat_lt n watch.left then record watch { left = watch.left - n } else watch in
    ap (λ (stage : Stage). ticked_all (unless_done stage counted watch) ns) is ∙ done_stays watch ns is

pub done_expires_never : (watch : Watch) (ns : List ℕ) (n : ℕ) → watch.stage ≡ Done → expires (ticked_all watch ns) n ≡ false
done_expires_never watch ns n is =
    ap (λ (w : Watch). expires w n) (done_stays watch ns is)
    ∙ ap (λ (stage : Stage). unless_done stage (nat_le watch.left n) false) is

-- The boots of both banks, from their beginning until they are done.
pub bmc_boots : (recoveries : ℕ) → passed (begun bank.Bmc recoveries) ≡ at_stage Done 0
bmc_boots recoveries = refl

pub pch_boots : (recoveries : ℕ) → passed (passed (passed (passed (begun bank.Pch recoveries)))) ≡ at_stage Done 0
pch_boots recoveries = refl
