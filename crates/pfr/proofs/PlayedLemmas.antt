-- What was done of a script, from new devices.
use Rattle.std.proofs.Common.{◌≡◌, ◌∙◌, ap, sym, refl, subst, ℕ, ◌%◌, ◌==◌, ◌&&◌, nat_le, true, List, [], ◌∷◌, length, take, arith}
use Rattle.std.proofs.lemmas.Bool.{and_parts}
use Rattle.std.proofs.lemmas.Bool.Decides.{nat_tests}
use Rattle.pfr_flash.specs.FlashState.{FlashState}
use Rattle.pfr_flash.specs.Layout.{IsBankSize}
use Rattle.pfr_flash.specs.MemFlash.{new_device}
use Rattle.pfr_flash.specs.Moved.{Moved}
use Rattle.pfr_flash.specs.declared.names.Device.{Device}
use Rattle.pfr_flash.specs.declared.names.Device.TheVariants as device
use Rattle.pfr_engine.specs.Acceptance.{Acceptance}
use Rattle.pfr_engine.specs.Accepting.{acceptance}
use Rattle.pfr_engine.specs.declared.row.Row.{Row}
use Rattle.pfr_script.specs.Arms.{FewItems, KnownArms, FewArms}
use Rattle.pfr_script.specs.ScriptState.{ScriptState}
use Rattle.pfr_script.specs.declared.arm.ArmWhat.{ArmWhat}
use Rattle.pfr_script.specs.declared.arm.ArmWhat.TheVariants.{Cut, Fault, ReadFault}
use Rattle.pfr_script.specs.declared.item.Item.{Item}
use Rattle.pfr_script.specs.declared.item.Item.TheVariants as item
use Rattle.pfr_report.specs.NotesState.{NotesState}
use Rattle.pfr_report.specs.Texts.{AllText}
use Rattle.pfr_story.specs.World.{World, state_at}
use Rattle.pfr_story.specs.Turn.{next_item}
use Rattle.pfr_story.specs.Run.{Did, Reached, CanRun, with_arm, with_arm_at}
use Rattle.pfr_story.proofs.Turns.{Turn-moved}
use Rattle.pfr_machine.specs.Worlds.{PlatformState}
use Rattle.pfr.specs.Benches.{KeepsLimits, made_as, bank_room}
use Rattle.pfr.specs.Judging.{image_fits}
use Rattle.pfr.specs.Loading.{HasSizes}
use Rattle.pfr.specs.Played.{fresh, Plays, IsPlayedFrom, PlayedFrom, PlayedOf, IsRunOf}
use Rattle.pfr.specs.declared.finished.Bench.{Bench}
use Rattle.pfr.specs.declared.load.Loaded.{Loaded}
use Rattle.pfr.specs.declared.playing.Played.{Played}
use Rattle.pfr.specs.declared.playing.Played.TheVariants.{Whole, Part}
use Rattle.pfr.specs.declared.status.Role.TheVariants as role

-- the platform is taken apart
pub played_parts : (start : PlatformState (List Row)) (script : ScriptState) (items : List Item) (bench : Bench) (w : World) → Plays script items start w
    → bench.bmc.device ≡ w.bmc → bench.pch.device ≡ w.pch → bench.nv.device ≡ w.nv → bench.notes ≡ w.notes → AllText w.notes.list
    → bench.engine ≡ start.engine → bench.script ≡ script → IsPlayedFrom start script items bench
played_parts start script items bench w plays bmc pch nv notes texts engine same = record {
  plays = record {
    end = plays.end;
    reached = plays.reached;
    left = record {
      bmc = bmc ∙ plays.left.bmc;
      pch = pch ∙ plays.left.pch;
      nv = nv ∙ plays.left.nv;
      notes = ap (λ (n : NotesState). n.list) notes ∙ plays.left.notes;
    };
  };
  texts = subst (λ (n : NotesState). AllText n.list) (sym notes) texts;
  judged_by = engine;
  scripted = same;
}

-- the items of a script can all be done from new devices
fresh_arms : (which : Device) (wear : ℕ) (bmc pch nv : List ℕ) → (state_at which (fresh wear bmc pch nv)).arms ≡ 256
fresh_arms device.Bmc wear bmc pch nv = refl
fresh_arms device.Pch wear bmc pch nv = refl
fresh_arms device.Nv wear bmc pch nv = refl

pub can_fresh : (script : ScriptState) (w : World) (wear : ℕ) (bmc pch nv : List ℕ) → w ≡ fresh wear bmc pch nv → FewItems script.items → KnownArms (length script.tears) script.items → FewArms script.items
    → CanRun (length script.tears) script.items w
can_fresh script w wear bmc pch nv is few known arms = rw is (record {
  arms = λ which. omega (arith, arms which, fresh_arms which wear bmc pch nv);
  known = known;
  few = omega arith;
})

-- ---- the items change neither the bytes at first nor the room
pub record Alike (old new : FlashState) : Type 0 where
  pub start : new.start ≡ old.start
  pub room : new.room ≡ old.room

pub record AllAlike (old new : World) : Type 0 where
  pub bmc : Alike old.bmc new.bmc
  pub pch : Alike old.pch new.pch
  pub nv : Alike old.nv new.nv

alike_then : (a b c : FlashState) → Alike a b → Alike b c → Alike a c
alike_then a b c p q = record { start = q.start ∙ p.start; room = q.room ∙ p.room }

all_alike_then : (a b c : World) → AllAlike a b → AllAlike b c → AllAlike a c
all_alike_then a b c p q = record {
  bmc = alike_then a.bmc b.bmc c.bmc p.bmc q.bmc;
  pch = alike_then a.pch b.pch c.pch p.pch q.pch;
  nv = alike_then a.nv b.nv c.nv p.nv q.nv;
}

alike_same : (d : FlashState) → Alike d d
alike_same d = record { start = refl; room = refl }

alike_moved : (old new : FlashState) → Moved old new → Alike old new
alike_moved old new m = record { start = m.start; room = m.room }

alike_arm : (what : ArmWhat) (nth : ℕ) (tear : List ℕ) (d : FlashState) → Alike d (with_arm what nth tear d)
alike_arm Cut nth tear d = record { start = refl; room = refl }
alike_arm Fault nth tear d = record { start = refl; room = refl }
alike_arm ReadFault nth tear d = record { start = refl; room = refl }

alike_armed : (which : Device) (what : ArmWhat) (nth : ℕ) (tear : List ℕ) (w : World) → AllAlike w (next_item (with_arm_at which what nth tear w))
alike_armed device.Bmc what nth tear w = record { bmc = alike_arm what nth tear w.bmc; pch = alike_same w.pch; nv = alike_same w.nv }
alike_armed device.Pch what nth tear w = record { bmc = alike_same w.bmc; pch = alike_arm what nth tear w.pch; nv = alike_same w.nv }
alike_armed device.Nv what nth tear w = record { bmc = alike_same w.bmc; pch = alike_same w.pch; nv = alike_arm what nth tear w.nv }

did_alike : (accepts : Acceptance) (tears : List (List ℕ)) (i : Item) (old new : World) → Did accepts tears i old new → AllAlike old new
did_alike accepts tears (item.Event e) old new t =
    let m = Turn-moved accepts e old new t in
    record { bmc = alike_moved old.bmc new.bmc m.bmc; pch = alike_moved old.pch new.pch m.pch; nv = alike_moved old.nv new.nv m.nv }
did_alike accepts tears (item.Arm arm) old new is = subst (λ (w : World). AllAlike old w) (sym is) (alike_armed arm.device arm.what arm.nth _ old)

Reached-alike : (accepts : Acceptance) (tears : List (List ℕ)) (items : List Item) (old new : World) → Reached (Did accepts tears) items old new → AllAlike old new
Reached-alike accepts tears [] old new is = subst (λ (w : World). AllAlike old w) (sym is) (record { bmc = alike_same old.bmc; pch = alike_same old.pch; nv = alike_same old.nv })
Reached-alike accepts tears (i ∷ items) old new r = all_alike_then old r.0 new (did_alike accepts tears i old r.0 r.1) (Reached-alike accepts tears items r.0 new r.2)

-- ---- sizes
pub bank_size : (size : ℕ) → image_fits role.Bmc size ≡ true → IsBankSize size
bank_size size h =
    let p = and_parts (size % 65536 == 0) (nat_le 65536 size && nat_le size 67108864) h in
    let q = and_parts (nat_le 65536 size) (nat_le size 67108864) p.1 in
    record { blocks = grind (arith, nat_tests, p.0); most = grind (arith, nat_tests, q.1) }

pub store_size : (size : ℕ) → image_fits role.Nv size ≡ true → size ≡ 32768
store_size size h = grind (arith, nat_tests)

-- ---- a run of what was loaded
made_alike : (d : FlashState) (bytes : List ℕ) (room : ℕ) → d.start ≡ bytes → d.room ≡ room → made_as d ≡ new_device bytes room
made_alike d bytes room s r = rw (s, r) refl

-- of a device of a bench, how it was made
start_of : (d e : FlashState) (bytes : List ℕ) (room : ℕ) → d ≡ e → Alike (new_device bytes room) e → d.start ≡ bytes
start_of d e bytes room is a = ap (λ (x : FlashState). x.start) is ∙ a.start

room_of : (d e : FlashState) (bytes : List ℕ) (room : ℕ) → d ≡ e → Alike (new_device bytes room) e → d.room ≡ room
room_of d e bytes room is a = ap (λ (x : FlashState). x.room) is ∙ a.room

run_of : (wear : ℕ) (loaded : Loaded) (bench : Bench) (start : PlatformState (List Row)) (items : List Item) → HasSizes loaded → KeepsLimits loaded.script
    → start ≡ record { world = fresh wear loaded.bmc.items loaded.pch.items loaded.nv.items; engine = loaded.engine }
    → IsPlayedFrom start loaded.script items bench → IsRunOf wear loaded bench items
run_of wear loaded bench start items sizes limits is played =
    let w = fresh wear loaded.bmc.items loaded.pch.items loaded.nv.items in
    let end = played.plays.end in
    let left = played.plays.left in
    let engine : bench.engine ≡ loaded.engine = played.judged_by ∙ ap (λ (s : PlatformState (List Row)). s.engine) is in
    let reached : Reached (Did (acceptance bench.engine) bench.script.tears) items w end =
    rw (played.judged_by, played.scripted, ← ap (λ (s : PlatformState (List Row)). s.world) is) played.plays.reached in
    let alike = Reached-alike (acceptance bench.engine) bench.script.tears items w end reached in
    let bmc = start_of bench.bmc.device end.bmc loaded.bmc.items (bank_room wear (length loaded.bmc.items)) left.bmc alike.bmc in
    let pch = start_of bench.pch.device end.pch loaded.pch.items (bank_room wear (length loaded.pch.items)) left.pch alike.pch in
    let nv = start_of bench.nv.device end.nv loaded.nv.items 65536 left.nv alike.nv in
    let bmc_room = room_of bench.bmc.device end.bmc loaded.bmc.items (bank_room wear (length loaded.bmc.items)) left.bmc alike.bmc in
    let pch_room = room_of bench.pch.device end.pch loaded.pch.items (bank_room wear (length loaded.pch.items)) left.pch alike.pch in
    let nv_room = room_of bench.nv.device end.nv loaded.nv.items 65536 left.nv alike.nv in
    record {
      run = record {
        end = end;
        reached = rw (made_alike bench.bmc.device _ _ bmc bmc_room, made_alike bench.pch.device _ _ pch pch_room, made_alike bench.nv.device _ _ nv nv_room) reached;
        left = left;
      };
      limits = subst KeepsLimits (sym played.scripted) limits;
      sizes = record {
        bmc = rw bmc (bank_size (length loaded.bmc.items) sizes.bmc);
        pch = rw pch (bank_size (length loaded.pch.items) sizes.pch);
        nv = rw nv (store_size (length loaded.nv.items) sizes.nv);
      };
      texts = played.texts;
      rooms = record {
        bmc = rw bmc bmc_room;
        pch = rw pch pch_room;
        nv = nv_room;
      };
      bmc = bmc;
      pch = pch;
      nv = nv;
      engine = engine;
      script = played.scripted;
    }

pub PlayedOf-from : (wear : ℕ) (loaded : Loaded) (start : PlatformState (List Row)) (played : Played) → HasSizes loaded → KeepsLimits loaded.script
    → start ≡ record { world = fresh wear loaded.bmc.items loaded.pch.items loaded.nv.items; engine = loaded.engine }
    → PlayedFrom start loaded.script played → PlayedOf wear loaded played
PlayedOf-from wear loaded start (Whole bench) sizes limits is from =
    run_of wear loaded bench start bench.script.items sizes limits is (subst (λ (s : ScriptState). IsPlayedFrom start loaded.script s.items bench) (sym from.scripted) from)
PlayedOf-from wear loaded start (Part bench) sizes limits is from =
    (from.0, run_of wear loaded bench start (take from.0 bench.script.items) sizes limits is (subst (λ (s : ScriptState). IsPlayedFrom start loaded.script (take from.0 s.items) bench) (sym from.1.scripted) from.1))
