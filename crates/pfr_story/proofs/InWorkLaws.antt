-- Each operation of the store in an event changes only what it may, at each count.
use Rattle.std.proofs.Common.{◌≡◌, ◌∙◌, refl, sym, subst, arith, false, List, [], drop, length}
use Rattle.std.proofs.lemmas.Bool.{false≢true}
use Rattle.std.proofs.lemmas.List.{drop_all}
use Rattle.pfr_flash.specs.FlashState.{size_of}
use Rattle.pfr_flash.specs.Layout.{IsBankSize}
use Rattle.pfr_flash.specs.Operation.{Operation}
use Rattle.pfr_flash.specs.declared.names.Bank.{Bank}
use Rattle.pfr_flash.specs.declared.names.Bank.TheVariants as bank
use Rattle.pfr_flash.specs.declared.names.Device.TheVariants as device
use Rattle.pfr_engine.specs.Acceptance.{Acceptance}
use Rattle.pfr_script.specs.declared.event.Event.{Event}
use Rattle.pfr_script.specs.declared.event.Event.TheVariants as event
use Rattle.pfr_script.specs.declared.event.Intent.{Intent}
use Rattle.pfr_script.specs.declared.event.Intent.TheVariants.{Active, Full, Recovery, Cert}
use Rattle.pfr_report.specs.Texts.{IsNoted}
use Rattle.pfr_report.specs.declared.note.Note.{Note}
use Rattle.pfr_report.specs.declared.note.What.{What}
use Rattle.pfr_report.specs.declared.note.What.TheVariants as what
use Rattle.pfr_script.specs.Slots.{IsKnownSlot}
use Rattle.pfr_story.specs.InWork.{StoreChangesInWork}
use Rattle.pfr_story.specs.Promises.{AreOff, IsUpdateTo}
use Rattle.pfr_story.specs.Story.{Story, Does, device_of}
use Rattle.pfr_story.specs.Turn.{is_idle, begun, Turn}
use Rattle.pfr_story.specs.World.{World, story_of}
use Rattle.pfr_story.proofs.BusRules.{spi_safe}
use Rattle.pfr_story.proofs.Bytes.{HaveBytes}
use Rattle.pfr_story.proofs.InWorkRules.{InWork, IsSince, since_kept, Changed, changed_kept}
use Rattle.pfr_story.proofs.InWorkWalks.{migrated_in_work, provisioned_in_work, brought_in_work, expired_in_work, updating_in_work}
use Rattle.pfr_story.proofs.KeptWalks.{KeptTable, Turn-kept}
use Rattle.pfr_story.proofs.Traces.{Traced, Traced-keeps}
use Rattle.pfr_story.proofs.WorkShapes.{Updates, Cancels}

module _ (accepts : Acceptance) (e : Event) (base : List Note) where
  own_free : (b : Bank) (op : Operation) (story : Story) → InWork e base (Does (device_of b) op) story
  own_free bank.Bmc op story = tt
  own_free bank.Pch op story = tt

  certified : (b : Bank) (intent : Intent) → e ≡ event.Update b intent → Cancels (Updates intent) → IsUpdateTo b Cert e
  certified b Active is cancels = absurd cancels
  certified b Full is cancels = absurd cancels
  certified b Recovery is cancels = absurd cancels
  certified b Cert is cancels = subst (λ (x : Event). IsUpdateTo b Cert x) (sym is) (refl, refl)

  table : IsKnownSlot e → KeptTable (InWork e base) (IsSince e base) accepts e
  table slot = record {
    keeps = since_kept e base;
    faults = record { held = λ b story. refl; locked = λ b which story. refl; lost = λ which story. refl };
    off = λ story. refl;
    power = λ story. tt;
    booted = λ b story. tt;
    passed = λ b at story. tt;
    spi = λ b frame story. spi_safe (InWork e base) accepts b frame (record { passed = λ op there. tt; blocked = λ cause there. tt; asks = λ there. tt; works = λ op there. own_free b op there }) story;
    smbus = λ b. record { passed = λ story. tt; blocked = λ cause story. tt };
    migrates = λ story sizes since. migrated_in_work e base story sizes.store_size (sizes.images device.Nv);
    provisions = λ root is story sizes. provisioned_in_work e base root story (subst IsKnownSlot is slot) sizes.store_size;
    brings = λ b story sizes since. brought_in_work e base accepts b story sizes.store_size since;
    expires = λ b story sizes since. expired_in_work e base accepts b story sizes.store_size since;
    updates = λ b intent is story sizes since. updating_in_work e base accepts b intent story (certified b intent is) sizes.store_size since;
  }

-- what a script provisions is a slot where the event is taken
known_slot : (e : Event) (old : World) → (¬ AreOff old → IsKnownSlot e) → is_idle e (story_of old) ≡ false → IsKnownSlot e
known_slot event.Power old slot on = tt
known_slot event.Off old slot on = tt
known_slot (event.Provision root) old slot on = slot (λ off. false≢true (sym on ∙ off))
known_slot (event.Spi b frame) old slot on = tt
known_slot (event.Smbus b frame) old slot on = tt
known_slot (event.Tick n) old slot on = tt
known_slot (event.Boot b pass) old slot on = tt
known_slot (event.Update b intent) old slot on = tt

-- A bank's log and floor change only while the bank is in work, and cancelled keys only at an update by a certificate.
pub Turn-in_work : (accepts : Acceptance) (e : Event) (old new : World) → Turn accepts e old new → HaveBytes new → IsBankSize (size_of old.bmc) → IsBankSize (size_of old.pch) → size_of old.nv ≡ 32768
    → (¬ AreOff old → IsKnownSlot e) → StoreChangesInWork e old new
Turn-in_work accepts e old new t held bmc pch nv slot = all.each
  where
    base : List Note
    base = old.notes.list

    unnoted : (notes : List Note) (that : What) → notes ≡ [] → IsNoted notes that → ⊥
    unnoted notes that none n = absurd (subst (λ (xs : List Note). IsNoted xs that) none n)

    since : IsSince e base (story_of (begun e old))
    since = record { front = omega arith; held = λ c at n. absurd (unnoted (drop (length base) base) (what.Held c at) (drop_all (length base) base (omega arith)) n) }

    traced : Traced (InWork e base) (begun e old) new
    traced = Turn-kept (InWork e base) (IsSince e base) accepts e old new (λ on. table accepts e base (known_slot e old slot on)) tt (λ which story. refl) since t held bmc pch nv

    all : Changed e base (length old.nv.ops) (story_of new)
    all = Traced-keeps (InWork e base) (Changed e base (length old.nv.ops)) (changed_kept e base (length old.nv.ops)) (begun e old) new traced
        (record { since = since; each = λ n low high. absurd (omega (arith, low, high)) })
