-- When each move of a frame on a bank's bus is safe: what has to be shown of its cases.
use Rattle.std.proofs.Common.{◌≡◌, refl, ℕ, List, [], ◌∷◌, length, Option, Some, None, Result, Ok, Err}
use Rattle.pfr_flash.specs.Operation.{Operation}
use Rattle.pfr_flash.specs.declared.names.Bank.{Bank}
use Rattle.pfr_engine.specs.Acceptance.{Acceptance}
use Rattle.pfr_filter.specs.Asking.{bus_ops}
use Rattle.pfr_filter.specs.Frames.{verdict_on}
use Rattle.pfr_filter.specs.declared.verdict.BlockCause.{BlockCause}
use Rattle.pfr_filter.specs.declared.verdict.BusOp.{BusOp}
use Rattle.pfr_filter.specs.declared.verdict.BusOp.TheVariants as busop
use Rattle.pfr_filter.specs.declared.verdict.Verdict.{Verdict}
use Rattle.pfr_filter.specs.declared.verdict.Verdict.TheVariants.{Pass, Block}
use Rattle.pfr_smbus.specs.declared.cause.SmbusCause.{SmbusCause}
use Rattle.pfr_report.specs.declared.note.What.TheVariants as what
use Rattle.pfr_story.specs.Guards.{guard_at}
use Rattle.pfr_story.specs.Story.{Story, Says, Does, Asks, after, called, device_of}
use Rattle.pfr_story.specs.Safety.{Rule, AllSafe}
use Rattle.pfr_story.specs.Plans.{mine, Ruling, ruling, by_verdict, by_ruling, filtered, bus_calls, judge_smbus, smbus_note, smbus_by, smbus_judged}
use Rattle.pfr_story.proofs.SafetyLaws.{AllSafe-append, called_any}

-- the verdict on a frame by a ruling
abbrev pub ruled : Bank → List ℕ → Ruling → Story → Verdict
ruled b frame r story = verdict_on frame r.manifest r.layout (length (mine b story)) (guard_at b story.guards).latch

-- What has to be shown of a frame: of one that is blocked, and of one that passes.
pub record AllowsFrame (G : Rule) (accepts : Acceptance) (b : Bank) (frame : List ℕ) (story : Story) : Type 0 where
  pub blocked : (why : BlockCause) → G (Says (λ _. what.BusBlocked b why)) story
  pub calls : (r : Ruling) (op : BusOp) → ruling accepts b story ≡ Some r → ruled b frame r story ≡ Pass op → AllSafe G (bus_calls b op) story
  pub passed : (r : Ruling) (op : BusOp) → ruling accepts b story ≡ Some r → ruled b frame r story ≡ Pass op → G (Says (λ _. what.BusPassed b op)) (after (bus_calls b op) story)

module _ (G : Rule) (accepts : Acceptance) (b : Bank) (frame : List ℕ) (story : Story) (h : AllowsFrame G accepts b frame story) where
  verdict_safe : (r : Ruling) → ruling accepts b story ≡ Some r → (v : Verdict) → ruled b frame r story ≡ v → AllSafe G (by_verdict b v story) story
  verdict_safe r e (Pass op) is = AllSafe-append G (bus_calls b op) (Says (λ _. what.BusPassed b op) ∷ []) story (h.calls r op e is) (h.passed r op e is, tt)
  verdict_safe r e (Block why) is = (h.blocked why, tt)

  ruling_safe : (found : Option Ruling) → ruling accepts b story ≡ found → AllSafe G (by_ruling b frame (guard_at b story.guards).latch found story) story
  ruling_safe (Some r) e = verdict_safe r e (ruled b frame r story) refl
  ruling_safe None e = tt

  pub filtered_safe : AllSafe G (filtered accepts b frame story) story
  filtered_safe = ruling_safe (ruling accepts b story) refl

-- a frame that passes calls its bank's device, to do what it asks for, or nothing
pub calls_safe : (G : Rule) (b : Bank) (op : BusOp) (story : Story) → AllSafe G (called (device_of b) (bus_ops op)) story → AllSafe G (bus_calls b op) story
calls_safe G b (busop.Program at page) story safe = safe
calls_safe G b (busop.Erase sector count) story safe = safe
calls_safe G b busop.Read story safe = tt
calls_safe G b busop.Status story safe = tt
calls_safe G b busop.Id story safe = tt
calls_safe G b busop.WriteEnable story safe = tt
calls_safe G b busop.WriteDisable story safe = tt

-- ---- where the contents don't matter
-- all that is noted of frames on a bank's SPI bus, and all that its device does, is good
pub record AllowsSpi (G : Rule) (b : Bank) : Type 0 where
  pub passed : (op : BusOp) (story : Story) → G (Says (λ _. what.BusPassed b op)) story
  pub blocked : (why : BlockCause) (story : Story) → G (Says (λ _. what.BusBlocked b why)) story
  pub asks : (story : Story) → G (Asks (device_of b)) story
  pub works : (op : Operation) (story : Story) → G (Does (device_of b) op) story

pub spi_safe : (G : Rule) (accepts : Acceptance) (b : Bank) (frame : List ℕ) → AllowsSpi G b → (story : Story) → AllSafe G (filtered accepts b frame story) story
spi_safe G accepts b frame h story = filtered_safe G accepts b frame story (record {
  blocked = λ why. h.blocked why story;
  calls = λ r op found passes. calls_safe G b op story (called_any G (device_of b) h.works h.asks (bus_ops op) story);
  passed = λ r op found passes. h.passed op (after (bus_calls b op) story);
})

-- all that is noted of frames on its SMBus is good
pub record AllowsSmbus (G : Rule) (b : Bank) : Type 0 where
  pub passed : (story : Story) → G (Says (λ _. what.SmbusPassed b)) story
  pub blocked : (why : SmbusCause) (story : Story) → G (Says (λ _. what.SmbusBlocked b why)) story

module _ (G : Rule) (accepts : Acceptance) (b : Bank) (frame : List ℕ) (h : AllowsSmbus G b) where
  smbus_noted : (judged : Result (Unit {0}) SmbusCause) (story : Story) → G (Says (λ _. smbus_note b judged)) story
  smbus_noted (Ok passed) story = h.passed story
  smbus_noted (Err why) story = h.blocked why story

  smbus_ruled : (found : Option Ruling) (story there : Story) → AllSafe G (smbus_by b frame found story) there
  smbus_ruled (Some r) story there = (smbus_noted (judge_smbus r.manifest.rules frame) there, tt)
  smbus_ruled None story there = tt

  -- judged by the contents of one story, and noted in another
  pub smbus_safe : (story there : Story) → AllSafe G (smbus_judged accepts b frame story) there
  smbus_safe story there = smbus_ruled (ruling accepts b story) story there
