-- What a run comes to where no call of a device fails.
use Rattle.std.specs.Prelude.{◌+◌, List, [], ◌∷◌}
use Rattle.pfr_engine.specs.Acceptance.{Acceptance}
use Rattle.pfr_script.specs.declared.event.Event.{Event}
use Rattle.pfr_script.specs.declared.item.Item.{Item}
use Rattle.pfr_script.specs.declared.item.Item.TheVariants as item
use Rattle.pfr_story.specs.Story.{Story, after, then}
use Rattle.pfr_story.specs.Course.{Course, calm_of}
use Rattle.pfr_story.specs.Turn.{course, guards_at}

-- the next item begins with its event
abbrev pub opened : Event → Story → Story
opened e story = record story { item = story.item + 1; guards = guards_at e story.notes story.guards }

-- all that a course calls for is done
abbrev pub along_course : Course → Story → Story
along_course c story = after (then (λ _. c.first) (calm_of c.stretches) story) story

-- what an item comes to
abbrev pub calm_item : Acceptance → Item → Story → Story
calm_item accepts (item.Event e) story = along_course (course accepts e story) (opened e story)
calm_item accepts (item.Arm arm) story = record story { item = story.item + 1 }

abbrev pub calm_run : Acceptance → List Item → Story → Story
calm_run accepts [] story = story
calm_run accepts (i ∷ items) story = calm_run accepts items (calm_item accepts i story)
