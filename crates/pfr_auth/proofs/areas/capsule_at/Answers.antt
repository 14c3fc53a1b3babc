use Rattle.std.proofs.Common.{ℕ, ◌+◌, ◌≤◌, arith}
use Rattle.pfr_flash.specs.Layout.{IsValidLayout}
use Rattle.pfr_flash.specs.declared.layout.Layout.{Layout}
use Rattle.pfr_auth.specs.Areas.{place_of}
use Rattle.pfr_auth.specs.declared.areas.Area.{Area}
use Rattle.pfr_auth.specs.declared.areas.Area.TheVariants.{Recovery, Staging}
use Rattle.pfr_auth.proofs.areas.capsule_at.Goals as goal

area_inside : (layout : Layout) (size : ℕ) (area : Area) → IsValidLayout layout size → place_of layout area + layout.area_len ≤ size
area_inside layout size Recovery valid = valid.inside.recovery
area_inside layout size Staging valid = valid.inside.staging

pub judge-requires-clause-inside : goal.judge-requires-clause-inside
judge-requires-clause-inside g c = omega (arith, c.place-place.ensures, area_inside c.args.layout.now _ c.args.area c.requires.valid)

pub returns-clause-ok : goal.returns-clause-ok
returns-clause-ok g c = rw c.place-place.ensures at c.judge.ensures.ok

pub returns-clause-only : goal.returns-clause-only
returns-clause-only g c = rw c.place-place.ensures at c.judge.ensures.only
