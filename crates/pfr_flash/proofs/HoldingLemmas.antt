-- That a device holds bytes: at each moment, and after each call.
use Rattle.std.proofs.Common.{◌≡◌, ℕ, ◌+◌, eqb, All, List, [], ◌∷◌, ◌++◌, subst, Option, Some, None}
use Rattle.std.proofs.lemmas.Bool.{cond_both}
use Rattle.std.proofs.lemmas.List.Elements.{All-push}
use Rattle.std.proofs.lemmas.List.Elements.{All-push}
use Rattle.pfr_flash.specs.Bytes.{AreBytes, bytes_at}
use Rattle.pfr_flash.specs.Operation.{Operation, torn_by}
use Rattle.pfr_flash.specs.FlashState.{FlashState, Due, Ending, Off, Full, Cut, Broken, Done, now, op_count_of, due_after, ending, after_ending}
use Rattle.pfr_flash.specs.Holding.{WritesBytes, tear_of, HoldsBytes}
use Rattle.pfr_flash.proofs.AreBytesLemmas.{AreBytes-nil, AreBytes-bytes_at, AreBytes-play, WritesBytes-torn_by}
use Rattle.pfr_flash.proofs.EndingLemmas.{EndingOf, is_off, is_full, is_cut, is_broken, is_done, ending_of}

-- ---- what a device holds, and what it held after its first operations, are bytes
pub now_bytes : (d : FlashState) → HoldsBytes d → AreBytes (now d)
now_bytes d h = AreBytes-play d.start d.ops h.start h.ops

pub bytes_at_now : (d : FlashState) (at count : ℕ) → HoldsBytes d → AreBytes (bytes_at (now d) at count)
bytes_at_now d at count h = AreBytes-bytes_at (now d) at count (now_bytes d h)

-- ---- and stay so
-- what stays armed was armed
tear_of-after : (number : ℕ) (due : Option Due) → AreBytes (tear_of due) → AreBytes (tear_of (due_after number due))
tear_of-after number None h = h
tear_of-after number (Some due) h = cond_both (eqb due.number number) None (Some due) (λ (o : Option Due). AreBytes (tear_of o)) (λ same. AreBytes-nil) (λ other. h)

torn_op : (op : Operation) (d : FlashState) (tear : List ℕ) → AreBytes tear → WritesBytes op → HoldsBytes d → All WritesBytes (d.ops ++ torn_by tear (now d) op ∷ [])
torn_op op d tear t w h = All-push WritesBytes d.ops (torn_by tear (now d) op) h.ops (WritesBytes-torn_by tear (now d) op t (now_bytes d h) w)

-- an armed tear is of bytes
pub tear_bytes : (due : Option Due) (number : ℕ) (tear : List ℕ) → due ≡ Some (record { number = number; tear = tear }) → AreBytes (tear_of due) → AreBytes tear
tear_bytes due number tear is h = subst (λ (o : Option Due). AreBytes (tear_of o)) is h

HoldsBytes-at : (op : Operation) (d : FlashState) (t : Ending) → EndingOf d t → WritesBytes op → HoldsBytes d → HoldsBytes (after_ending op d t)
HoldsBytes-at op d Off (is_off off) w h = h
HoldsBytes-at op d Full (is_full on full) w h = record { start = h.start; ops = h.ops; cut = h.cut; fault = h.fault }
HoldsBytes-at op d (Cut tear) (is_cut on room c) w h = record {
  start = h.start;
  ops = torn_op op d tear (tear_bytes d.cut_due _ tear c h.cut) w h;
  cut = AreBytes-nil;
  fault = tear_of-after (op_count_of d + 1) d.fault_due h.fault;
}
HoldsBytes-at op d (Broken tear) (is_broken on room c f) w h = record {
  start = h.start;
  ops = torn_op op d tear (tear_bytes d.fault_due _ tear f h.fault) w h;
  cut = h.cut;
  fault = AreBytes-nil;
}
HoldsBytes-at op d Done (is_done on room c f) w h = record {
  start = h.start;
  ops = All-push WritesBytes d.ops op h.ops w;
  cut = h.cut;
  fault = h.fault;
}

-- a call that is given bytes leaves bytes
pub HoldsBytes-after : (op : Operation) (d : FlashState) → WritesBytes op → HoldsBytes d → HoldsBytes (after_ending op d (ending d))
HoldsBytes-after op d w h = HoldsBytes-at op d (ending d) (ending_of d) w h
