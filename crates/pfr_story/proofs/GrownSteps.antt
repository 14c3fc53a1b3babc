-- Each move of a step takes no fuse of the store back, and leaves the slot which provisions it.
use Rattle.std.proofs.Common.{arith, ◌≡◌, ◌∙◌, sym, Bool, true, false, length, inl, inr}
use Rattle.std.proofs.lemmas.Bool.{false≢true}
use Rattle.pfr_flash.specs.Bytes.{AreBytes}
use Rattle.pfr_flash.specs.FlashState.{size_of}
use Rattle.pfr_flash.specs.declared.names.Bank.{Bank}
use Rattle.pfr_flash.specs.declared.names.Device.TheVariants as device
use Rattle.pfr_flash.proofs.PlayLemmas.{length-play}
use Rattle.pfr_engine.specs.Acceptance.{Acceptance}
use Rattle.pfr_fuses.specs.Growth.{NeverGoesBack, KeepsProvision}
use Rattle.pfr_script.specs.declared.event.Event.{Event}
use Rattle.pfr_script.specs.declared.event.Event.TheVariants as event
use Rattle.pfr_script.specs.Slots.{IsKnownSlot}
use Rattle.pfr_story.specs.Course.{Follows}
use Rattle.pfr_story.specs.JobPlans.{job_notes}
use Rattle.pfr_story.specs.Plans.{store}
use Rattle.pfr_story.specs.Promises.{AreOff}
use Rattle.pfr_story.specs.Story.{Story}
use Rattle.pfr_story.specs.Turn.{off_course, boot_course, ignored, is_idle, taken, begun, Turn}
use Rattle.pfr_story.specs.World.{World, story_of}
use Rattle.pfr_story.proofs.BringAllowed.{AllowsUpdate}
use Rattle.pfr_story.proofs.BringRules.{Any}
use Rattle.pfr_story.proofs.BusRules.{AllowsSpi, spi_safe, smbus_safe}
use Rattle.pfr_story.proofs.Bytes.{HaveBytes, images_then}
use Rattle.pfr_story.proofs.Courses.{Turn-cases}
use Rattle.pfr_fuses.proofs.StaysLemmas.{row_in_sector}
use Rattle.pfr_story.proofs.JobGrowth.{Growing, grown, own_growing, jobs_grow, jobs_grow_told, cleared_grown, migration_grows, provision_grows}
use Rattle.pfr_story.proofs.JobSafetyCancelled.{own_signs}
use Rattle.pfr_story.proofs.StepTraces.{AllowsBanks, noted_good, power_good, provision_traced, spi_traced, smbus_traced, tick_traced, failed_traced, update_traced}
use Rattle.pfr_story.proofs.Traces.{Traced, precedes_moved}
use Rattle.pfr_story.proofs.Turns.{Turn-moved}

growing_banks : AllowsBanks Growing
growing_banks = record {
  held = λ b story. tt;
  bank = λ b. record {
    released = λ svn story. tt;
    locked = λ cause story. tt;
    untrusted = λ cause story. tt;
    jobs = jobs_grow b;
    tells = jobs_grow_told b (job_notes b);
  };
  lost = λ which story. tt;
}

growing_update : (b : Bank) → AllowsUpdate Growing b
growing_update b = record {
  refused = λ cause story. tt;
  cancelled = λ type id story. tt;
  cancels = λ type op story own clear size.
      let row = row_in_sector type (own_signs b type own) in
      cleared_grown (store story) op (record { low = omega (arith, row.0, clear.within.low); high = omega (arith, row.1, clear.within.high) }) clear.clears size;
}

growing_spi : (b : Bank) → AllowsSpi Growing b
growing_spi b = record { passed = λ op story. tt; blocked = λ cause story. tt; asks = λ story. tt; works = λ op story. own_growing b op story }

-- the store has its size, and holds bytes
abbrev IsWhole : Story → Type 0
IsWhole story = (length (store story) ≡ 32768) × AreBytes (store story)

module _ (accepts : Acceptance) (old new : World) where
  boot_grown : (b : Bank) (pass : Bool) (first : World) (story : Story) → size_of first.nv ≡ 32768 → Follows (boot_course accepts b pass story) first new → Traced Growing first new
  boot_grown b true first story size t = noted_good Growing growing_banks first new (boot_course accepts b true story).first t (tt, tt)
  boot_grown b false first story size t = failed_traced Growing growing_banks accepts b first new tt size t

  taken_grown : (e : Event) → size_of old.nv ≡ 32768 → IsWhole (story_of old) → (¬ AreOff old → IsKnownSlot e) → is_idle e (story_of old) ≡ false → Follows (taken accepts e (story_of old)) (begun e old) new
      → Traced Growing (begun e old) new
  taken_grown event.Power size whole slot on t = power_good Growing growing_banks IsWhole accepts (begun event.Power old) new (λ story p. migration_grows story p.0 p.1) tt whole size t
  taken_grown event.Off size whole slot on t = noted_good Growing growing_banks (begun event.Off old) new off_course.first t (tt, tt)
  taken_grown (event.Provision root) size whole slot on t =
      provision_traced Growing growing_banks Any root (begun (event.Provision root) old) new
      (λ story any. provision_grows root story (slot (λ (off : AreOff old). false≢true (sym on ∙ off)))) tt t
  taken_grown (event.Spi b frame) size whole slot on t =
      spi_traced Growing growing_banks Any accepts b frame (begun (event.Spi b frame) old) new (λ story any. spi_safe Growing accepts b frame (growing_spi b) story) tt t
  taken_grown (event.Smbus b frame) size whole slot on t =
      let first : World = begun (event.Smbus b frame) old in
      smbus_traced Growing growing_banks accepts b frame (story_of old) first new
      (smbus_safe Growing accepts b frame (record { passed = λ story. tt; blocked = λ cause story. tt }) (story_of old) (story_of first)) t
  taken_grown (event.Tick n) size whole slot on t = tick_traced Growing growing_banks accepts n (story_of old) (begun (event.Tick n) old) new (λ b there due same. tt) size t
  taken_grown (event.Boot b pass) size whole slot on t = boot_grown b pass (begun (event.Boot b pass) old) (story_of old) size t
  taken_grown (event.Update b intent) size whole slot on t =
      update_traced Growing growing_banks accepts b intent (begun (event.Update b intent) old) new (growing_update b) size t

  module _ (e : Event) (size : size_of old.nv ≡ 32768) (held : HaveBytes new) (slot : ¬ AreOff old → IsKnownSlot e) (t : Turn accepts e old new) where
    whole_first : IsWhole (story_of old)
    whole_first =
        let first : World = begun e old in
        (length-play old.nv.start old.nv.ops ∙ size, images_then (story_of first) new (precedes_moved first new (Turn-moved accepts e old new t)) held device.Nv)

    pub Turn-growing : Traced Growing (begun e old) new
    Turn-growing = elim (Turn-cases accepts e old new t) [
      | inl idle ↦ noted_good Growing growing_banks (begun e old) new ignored.first idle.1 (tt, tt)
      | inr on ↦ taken_grown e size whole_first slot on.0 on.1
    ]

    -- So no step takes a fuse back, or changes the provision.
    pub Turn-grown : NeverGoesBack old.nv new.nv × KeepsProvision old.nv new.nv
    Turn-grown = grown (begun e old) new size Turn-growing
