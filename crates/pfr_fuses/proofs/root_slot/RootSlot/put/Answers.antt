use Rattle.std.proofs.Common.{◌≡◌, length, rules, subst, List, ℕ, ◌<◌, get_or}
use Rattle.std.proofs.Math.Facts.{Fits-lt-pow}
use Rattle.pfr_fuses.specs.RootSlot.{slot_bytes}
use Rattle.pfr_fuses.proofs.FillingLemmas.{filled_three}
use Rattle.pfr_fuses.proofs.RootSlotLemmas.{length-layout}
use Rattle.pfr_fuses.proofs.root_slot.RootSlot.put.Goals as goal

pub returns-clause-bytes : goal.returns-clause-bytes
unfolding slot_bytes
returns-clause-bytes c =
    let root : length c.args.self.now.root ≡ 32 = search rules in
    filled_three c.args.bytes.now _ _ _ _ _ _ c.requires root (length-layout c.args.self.now.bmc) (length-layout c.args.self.now.pch)
    c.put.ensures (rw c.layout_bytes.ensures.bytes at c.put-2.ensures) (rw c.layout_bytes-2.ensures.bytes at c.put-3.ensures)

pub returns-clause-slot : goal.returns-clause-slot
returns-clause-slot c =
    let root : length c.args.self.now.root ≡ 32 = search rules in
    let same : c.put-3.new.bytes ≡ slot_bytes c.args.self.now = returns-clause-bytes c in
    record {
      root = root;
      bmc = c.layout_bytes.ensures.fields;
      pch = c.layout_bytes-2.ensures.fields;
      bytes = λ i below. subst (λ (xs : List ℕ). get_or xs i 0 < 256) same (Fits-lt-pow (c.type_inv.bytes i));
    }
