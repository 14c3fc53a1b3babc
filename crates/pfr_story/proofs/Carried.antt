-- Rules that carry what they stand on: a move is good from where this holds, and leaves it so.
use Rattle.std.proofs.Common.{List, [], ◌∷◌}
use Rattle.pfr_story.specs.Safety.{Rule, AllSafe}
use Rattle.pfr_story.specs.Story.{Story, Move, Says, Does, Asks, moved_by}

abbrev pub Carrying : (Story → Type 0) → Rule → Rule
Carrying I G move story = I story → G move story × I (moved_by move story)

module _ (I : Story → Type 0) (G : Rule) where
  -- what is safe so is safe from where this holds
  pub carried_safe : (moves : List Move) (story : Story) → AllSafe (Carrying I G) moves story → I story → AllSafe G moves story
  carried_safe [] story p i = tt
  carried_safe (Says w ∷ moves) story p i = ((p.0 i).0, carried_safe moves (moved_by (Says w) story) p.1 (p.0 i).1)
  carried_safe (Does which op ∷ moves) story p i = (((p.0.0 i).0, λ done t. (p.0.1 done t i).0), carried_safe moves (moved_by (Does which op) story) p.1 (p.0.0 i).1)
  carried_safe (Asks which ∷ moves) story p i = ((p.0 i).0, carried_safe moves story p.1 i)
