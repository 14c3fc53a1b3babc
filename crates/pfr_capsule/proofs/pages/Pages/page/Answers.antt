use Rattle.std.proofs.Common.{arith}
use Rattle.pfr_flash.proofs.RangeLemmas.{length-now}
use Rattle.pfr_flash.proofs.EndsLemmas.{ends_content}
use Rattle.pfr_capsule.proofs.PageLaws.{page_kept, page_blank, page_copied, payload_inside}
use Rattle.pfr_capsule.proofs.pages.Pages.page.Goals as goal

pub returns-then-not-branch-clause-found : goal.returns-then-not-branch-clause-found
returns-then-not-branch-clause-found g c = page_kept _ c.args.self.now c.args.n _ c.in_ok-is_erased.ensures.found c.if-not-branch.true

pub overflow_mul-result : goal.overflow_mul-result
overflow_mul-result g c = omega (arith, length-now (g.F.Flash.device c.args.flash.now), payload_inside _ _ c.args.self.now c.args.n c.in-Some.count _ c.requires.index c.requires.inside (ends_content c.in_ok-is_erased.ensures.ends) c.in_ok-count.ensures.found c.in-Some.is)

pub overflow_add-result : goal.overflow_add-result
overflow_add-result g c = omega (arith, length-now (g.F.Flash.device c.args.flash.now), payload_inside _ _ c.args.self.now c.args.n c.in-Some.count _ c.requires.index c.requires.inside (ends_content c.in_ok-is_erased.ensures.ends) c.in_ok-count.ensures.found c.in-Some.is)

pub returns-in-Some-clause-found : goal.returns-in-Some-clause-found
returns-in-Some-clause-found g c = page_copied _ _ c.args.self.now c.args.n c.in-Some.count _ _ (ends_content c.in_ok-is_erased.ensures.ends) c.in_ok-is_erased.ensures.found c.if-not-branch.false c.in_ok-count.ensures.found c.in-Some.is

pub returns-in-Some-clause-payload : goal.returns-in-Some-clause-payload
returns-in-Some-clause-payload g c = omega (arith, length-now (g.F.Flash.device c.args.flash.now), payload_inside _ _ c.args.self.now c.args.n c.in-Some.count _ c.requires.index c.requires.inside (ends_content c.in_ok-is_erased.ensures.ends) c.in_ok-count.ensures.found c.in-Some.is)

pub returns-in-None-clause-found : goal.returns-in-None-clause-found
returns-in-None-clause-found g c = page_blank _ _ c.args.self.now c.args.n _ _ (ends_content c.in_ok-is_erased.ensures.ends) c.in_ok-is_erased.ensures.found c.if-not-branch.false c.in_ok-count.ensures.found c.in-None.is
