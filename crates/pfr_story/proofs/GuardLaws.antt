-- What guards the banks is moved by a step's event and then by its notes alone.
use Rattle.std.proofs.Common.{◌≡◌, ◌∙◌, refl, sym, ap, List, [], ◌∷◌}
use Rattle.pfr_flash.specs.Operation.{Operation}
use Rattle.pfr_flash.specs.declared.names.Device.{Device}
use Rattle.pfr_flash.specs.declared.names.Device.TheVariants as device
use Rattle.pfr_engine.specs.Acceptance.{Acceptance}
use Rattle.pfr_script.specs.declared.event.Event.{Event}
use Rattle.pfr_report.specs.declared.note.Note.{Note}
use Rattle.pfr_story.specs.Guards.{Guards}
use Rattle.pfr_story.specs.Story.{Story, Move, Says, Does, Asks, after, noted, operated}
use Rattle.pfr_story.specs.World.{World, story_of}
use Rattle.pfr_story.specs.Turn.{begun, course, guards_at, Turn}
use Rattle.pfr_story.specs.Guarding.{guards_by, GuardsFollow}
use Rattle.pfr_story.proofs.Made.{said, Made, made_then, Steps-made, added_said}

-- what a step makes, from where its event begins
pub Turn-made : (accepts : Acceptance) (e : Event) (old new : World) → Turn accepts e old new → Made (begun e old) new
Turn-made accepts e old new (mid, first, rest) =
    made_then (begun e old) mid new (record { trace = (course accepts e (story_of old)).first; is = first.is }) (Steps-made (course accepts e (story_of old)).stretches mid new rest)

guards_operated : (which : Device) (op : Operation) (story : Story) → (operated which op story).guards ≡ story.guards
guards_operated device.Bmc op story = refl
guards_operated device.Pch op story = refl
guards_operated device.Nv op story = refl

-- moves change the guards by their notes
pub guards_moved : (moves : List Move) (story : Story) → (after moves story).guards ≡ guards_by (said moves story) story.guards
guards_moved [] story = refl
guards_moved (Says w ∷ moves) story = guards_moved moves (noted w story)
guards_moved (Does which op ∷ moves) story =
    guards_moved moves (operated which op story) ∙ ap (λ (guards : Guards). guards_by (said moves (operated which op story)) guards) (guards_operated which op story)
guards_moved (Asks which ∷ moves) story = guards_moved moves story

-- The banks' guards are moved by a step's event, which ticks them, and then by its notes alone.
pub Turn-guards : (accepts : Acceptance) (e : Event) (old new : World) → Turn accepts e old new → GuardsFollow e old new
Turn-guards accepts e old new t =
    let made = Turn-made accepts e old new t in
    ap (λ (s : Story). s.guards) made.is ∙ guards_moved made.trace (story_of (begun e old))
    ∙ ap (λ (notes : List Note). guards_by notes (guards_at e old.notes.list old.guards)) (sym (added_said (begun e old) new made))
