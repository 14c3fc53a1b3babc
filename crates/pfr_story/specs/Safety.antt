-- What is true of each move of a plan, also of one that is torn.
use Rattle.std.specs.Prelude.{List, [], ◌∷◌}
use Rattle.pfr_flash.specs.Operation.{Operation, IsTorn}
use Rattle.pfr_flash.specs.declared.names.Counts.{Counts}
use Rattle.pfr_flash.specs.declared.names.Device.{Device}
use Rattle.pfr_report.specs.declared.note.What.{What}
use Rattle.pfr_story.specs.Story.{Story, Move, Says, Does, Asks, Plan, after, moved_by, image_at}

-- a rule for moves, by the story before each
abbrev pub Rule : Type 1
Rule = Move → Story → Type 0

-- each of these moves, which were made, is good where it was made
abbrev pub AllGood : Rule → List Move → Story → Type 0
AllGood G [] story = Unit {0}
AllGood G (move ∷ moves) story = G move story × AllGood G moves (moved_by move story)

-- a move that is to be made is good, and so is what a tear makes of it
abbrev pub IsSafe : Rule → Move → Story → Type 0
IsSafe G (Says what) story = G (Says what) story
IsSafe G (Does which op) story = G (Does which op) story × ((done : Operation) → IsTorn (image_at which story) op done → G (Does which done) story)
IsSafe G (Asks which) story = G (Asks which) story

abbrev pub AllSafe : Rule → List Move → Story → Type 0
AllSafe G [] story = Unit {0}
AllSafe G (move ∷ moves) story = IsSafe G move story × AllSafe G moves (moved_by move story)

-- what good moves keep
abbrev pub Keeps : Rule → (Story → Type 0) → Type 0
Keeps G I = (move : Move) (story : Story) → G move story → I story → I (moved_by move story)

-- two rules at once
abbrev pub Both : Rule → Rule → Rule
Both G H move story = G move story × H move story

-- From each story where P holds the plan is safe, and leads to one where Q holds.
pub record Leads (G : Rule) (P : Story → Type 0) (plan : Plan) (Q : Story → Type 0) : Type 0 where
  pub safe : (story : Story) → P story → AllSafe G (plan story) story
  pub ends : (story : Story) → P story → Q (after (plan story) story)

-- each device that these moves call is one of these, and so is each of their notes
abbrev pub AllMake : (Device → Type 0) → ((Counts → What) → Type 0) → List Move → Type 0
AllMake D S [] = Unit {0}
AllMake D S (Says what ∷ moves) = S what × AllMake D S moves
AllMake D S (Does which op ∷ moves) = D which × AllMake D S moves
AllMake D S (Asks which ∷ moves) = D which × AllMake D S moves
