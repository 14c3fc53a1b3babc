use Rattle.std.proofs.Common.{◌≡◌, ◌∙◌, ap, ℕ, ◌+◌, ◌-◌, ◌*◌, ◌/◌, ◌%◌, ◌^◌, ◌<◌, take, get_or, arith, refl, length-take, count_ones}
use Rattle.pfr_capsule.proofs.CountLaws.{count_le, count_and_byte, count_and_rest}
use Rattle.pfr_capsule.specs.Maps.{count_before}
use Rattle.pfr_capsule.proofs.maps.count_before.Goals as goal

pub loop-byte-init : goal.loop-byte-init
unfolding count_before
loop-byte-init c = refl

pub overflow_add-count : goal.overflow_add-count
overflow_add-count c =
    let inside : c.loop-byte.byte-index < c.args.n / 8 - 0 = omega (arith, length-take {A = ℕ}) in
    let byte : get_or c.args.map.now c.loop-byte.byte-index 0 < 256 = omega (arith, c.type_inv.map c.loop-byte.byte-index) in
    let is : c.loop-byte.count + count_ones (get_or (take (c.args.n / 8 - 0) c.args.map.now) c.loop-byte.byte-index 0) ≡ count_before c.args.map.now (8 * (c.loop-byte.byte-index + 1)) =
    count_and_byte c.args.map.now (c.args.n / 8 - 0) c.loop-byte.byte-index c.loop-byte.count inside byte c.loop-byte.invariant in
    omega (arith, is, count_le c.args.map.now (8 * (c.loop-byte.byte-index + 1)))

pub loop-byte-preserved : goal.loop-byte-preserved
loop-byte-preserved c =
    let inside : c.loop-byte.byte-index < c.args.n / 8 - 0 = omega (arith, length-take {A = ℕ}) in
    let byte : get_or c.args.map.now c.loop-byte.byte-index 0 < 256 = omega (arith, c.type_inv.map c.loop-byte.byte-index) in
    count_and_byte c.args.map.now (c.args.n / 8 - 0) c.loop-byte.byte-index c.loop-byte.count inside byte c.loop-byte.invariant

pub overflow_add-count-then-n-gt0 : goal.overflow_add-count-then-n-gt0
overflow_add-count-then-n-gt0 c =
    let ends : c.loop-byte.byte-index ≡ c.args.n / 8 = omega (arith, length-take {A = ℕ}) in
    let byte : get_or c.args.map.now (c.args.n / 8) 0 < 256 = omega (arith, c.type_inv.map (c.args.n / 8)) in
    let is : c.loop-byte.count + count_ones (get_or c.args.map.now (c.args.n / 8) 0 / 2 ^ (8 - c.args.n % 8)) ≡ count_before c.args.map.now c.args.n =
    count_and_rest c.args.map.now c.args.n c.loop-byte.byte-index c.loop-byte.count ends byte c.loop-byte.invariant in
    omega (arith, is, count_le c.args.map.now c.args.n)

pub returns-then-n-gt0 : goal.returns-then-n-gt0
returns-then-n-gt0 c =
    let ends : c.loop-byte.byte-index ≡ c.args.n / 8 = omega (arith, length-take {A = ℕ}) in
    let byte : get_or c.args.map.now (c.args.n / 8) 0 < 256 = omega (arith, c.type_inv.map (c.args.n / 8)) in
    count_and_rest c.args.map.now c.args.n c.loop-byte.byte-index c.loop-byte.count ends byte c.loop-byte.invariant

pub returns-else-n-gt0 : goal.returns-else-n-gt0
returns-else-n-gt0 c =
    let ends : 8 * c.loop-byte.byte-index ≡ c.args.n = omega (arith, length-take {A = ℕ}) in
    c.loop-byte.invariant ∙ ap (λ (n : ℕ). count_before c.args.map.now n) ends
