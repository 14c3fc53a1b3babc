-- What is done to a bank and to the store in a pass over pages.
use Rattle.std.specs.Prelude.{◌≡◌, ℕ, ◌/◌, ◌==◌, Bool, true, not, if◌then◌else◌, List, [], ◌∷◌, ◌++◌, map}
use Rattle.pfr_flash.specs.Operation.{Operation, play, IsTorn}
use Rattle.pfr_strokes.specs.Strokes.{strokes}
use Rattle.pfr_strokes.specs.declared.side.Side.{Side}
use Rattle.pfr_strokes.specs.declared.side.Side.TheVariants.{Bank, Store}

-- a side does an operation, or is called and does nothing
pub data Deed : Type 0 where
  Asks : (side : Side) → Deed
  Does : (side : Side) (op : Operation) → Deed

-- a call of a side that is to do these operations, and may ask it besides
abbrev pub called : Side → List Operation → List Deed
called side ops = map (λ op. Does side op) ops ++ Asks side ∷ []

-- whether the next page isn't of this page's group
abbrev pub ends_group : ℕ → ℕ → List ℕ → Bool
ends_group group page [] = true
ends_group group page (next ∷ others) = not (next / group == page / group)

-- Each page is replaced, and behind the last page of a group comes the group's mark.
unfoldable pub page_deeds : (ℕ → List ℕ) → ℕ → (ℕ → List Deed) → List ℕ → List Deed
page_deeds content group mark [] = []
page_deeds content group mark (page ∷ pages) =
    called Bank (strokes page (content page)) ++ ((if ends_group group page pages then mark (page / group) else []) ++ page_deeds content group mark pages)

-- A pass over pages: the bank is read first. A page's number divided by `group` is the number of its group.
abbrev pub pass : (ℕ → List ℕ) → ℕ → (ℕ → List Deed) → List ℕ → List Deed
pass content group mark pages = Asks Bank ∷ page_deeds content group mark pages

-- a mark that is these operations of the store, and none
abbrev pub marked_by : (ℕ → List Operation) → ℕ → List Deed
marked_by plan number = called Store (plan number) ++ Asks Bank ∷ []

abbrev pub unmarked : ℕ → List Deed
unmarked number = []

-- the operations of one side
abbrev pub side_ops : Side → List Deed → List Operation
side_ops side [] = []
side_ops side (Asks which ∷ deeds) = side_ops side deeds
side_ops Bank (Does Bank op ∷ deeds) = op ∷ side_ops Bank deeds
side_ops Bank (Does Store op ∷ deeds) = side_ops Bank deeds
side_ops Store (Does Bank op ∷ deeds) = side_ops Store deeds
side_ops Store (Does Store op ∷ deeds) = op ∷ side_ops Store deeds

-- How a call of a side failed in place of a deed: it was only asked, or did nothing of its operation, or a torn one.
pub data FailedAt (side : Side) (image : List ℕ) : Deed → List Deed → Type 0 where
  asking : FailedAt side image (Asks side) []
  unbegun : (op : Operation) → FailedAt side image (Does side op) []
  torn : (op done : Operation) → IsTorn image op done → FailedAt side image (Does side op) (Does side done ∷ [])

-- What was done where a call of a side, with these bytes at first, failed: a front of the deeds up to one of that side.
pub record IsDeedCut (side : Side) (deeds : List Deed) (image : List ℕ) (trace : List Deed) : Type 0 where
  pub front : List Deed
  pub next : Deed
  pub rest : List Deed
  pub last : List Deed
  pub plan : deeds ≡ front ++ (next ∷ rest)
  pub is : trace ≡ front ++ last
  pub failed : FailedAt side (play image (side_ops side front)) next last
