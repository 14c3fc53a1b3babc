use Rattle.std.proofs.Common.{◌≡◌, ◌∙◌, ◌-◌, ◌<◌, ◌≤◌, length, Ok, refl, arith, subst}
use Rattle.std.proofs.lemmas.Result.{err_from_is_err_and}
use Rattle.std.proofs.lemmas.List.{length_push}
use Rattle.pfr_flash.proofs.EndsLemmas.{EndsAt-refl, then_ends, ends_content}
use Rattle.pfr_manifest.specs.declared.entry.Entry.TheVariants as variants
use Rattle.pfr_manifest.specs.Judge.{region_len, HasRoom}
use Rattle.pfr_manifest.proofs.LoopLemmas.{entry_refused, tail_judged, tail_refused, region_read, rule_read, none_left}
use Rattle.pfr_manifest.proofs.reading.entries_at.Goals as goal

pub entries-init : goal.entries-init
entries-init g c = record {
  within = c.requires.some;
  few_regions = rw c.requires.empty.0 (omega arith);
  few_rules = rw c.requires.empty.1 (omega arith);
  exact = refl;
  ends = EndsAt-refl (g.F.Flash.device c.args.flash.now);
}

pub returns-in_err-entry_at-clause-exact : goal.returns-in_err-entry_at-clause-exact
returns-in_err-entry_at-clause-exact g c =
    let p = err_from_is_err_and c.from_residual.result c.from_residual.ensures.1 in
    rw (p.1, p.2) (entry_refused c.entries.invariant c.requires.within c.in_err-entry_at.field-0.0 c.entries-test.true c.in_err-entry_at.ensures.exact)

pub returns-in_err-tail_at-in-Tail-clause-exact : goal.returns-in_err-tail_at-in-Tail-clause-exact
returns-in_err-tail_at-in-Tail-clause-exact g c =
    let p = err_from_is_err_and c.from_residual-in_err-tail_at-in-Tail.result c.from_residual-in_err-tail_at-in-Tail.ensures.1 in
    rw (p.1, p.2) (tail_refused c.entries.invariant c.requires.within (g.F.Flash.device c.entry_at.new.flash) c.in_err-tail_at-in-Tail.field-0.0 c.entries-test.true
    (c.in_ok-entry_at.ensures.exact ∙ cc) (ends_content c.in_ok-entry_at.ensures.ends ∙ ends_content c.entries.invariant.ends) c.in_err-tail_at-in-Tail.ensures.exact)

pub returns-in-Tail-clause-exact : goal.returns-in-Tail-clause-exact
returns-in-Tail-clause-exact g c =
    tail_judged c.entries.invariant c.requires.within (g.F.Flash.device c.entry_at.new.flash) (Ok tt) c.entries-test.true
    (c.in_ok-entry_at.ensures.exact ∙ cc) (ends_content c.in_ok-entry_at.ensures.ends ∙ ends_content c.entries.invariant.ends) c.in_ok-tail_at-in-Tail.ensures.exact

pub entries-preserved-in-Region : goal.entries-preserved-in-Region
entries-preserved-in-Region g c =
    let e : c.in_ok-entry_at.field-0 ≡ variants.Region c.in-Region.region = c.in-Region.is in
    let room : (region_len c.in-Region.region ≤ c.args.size - c.entries.at) × (length c.entries.manifest.regions < 64) =
    subst (λ entry. HasRoom entry (c.args.size - c.entries.at) c.entries.manifest) e c.in_ok-entry_at.ensures.room in
    let long = length_push c.entries.manifest.regions c.in-Region.region in
    record {
      within = omega (arith, c.definition_len-at.ensures.value, room.0, c.entries-test.true);
      few_regions = rw c.push.ensures (omega arith);
      few_rules = c.entries.invariant.few_rules;
      exact = region_read c.entries.invariant c.requires.within c.in-Region.region c.push.new.self c.definition_len-at.result c.entries-test.true
          (c.in_ok-entry_at.ensures.exact ∙ cc) room.1 c.push.ensures c.definition_len-at.ensures.value;
      ends = then_ends c.entries.invariant.ends c.in_ok-entry_at.ensures.ends;
    }

pub entries-preserved : goal.entries-preserved
entries-preserved g c =
    let e : c.in_ok-entry_at.field-0 ≡ variants.Rule c.in-Rule.rule = c.in-Rule.is in
    let room : (40 ≤ c.args.size - c.entries.at) × (length c.entries.manifest.rules < 64) =
    subst (λ entry. HasRoom entry (c.args.size - c.entries.at) c.entries.manifest) e c.in_ok-entry_at.ensures.room in
    let long = length_push c.entries.manifest.rules c.in-Rule.rule in
    record {
      within = omega (arith, room.0, c.entries-test.true);
      few_regions = c.entries.invariant.few_regions;
      few_rules = rw c.push-in-Rule.ensures (omega arith);
      exact = rule_read c.entries.invariant c.requires.within c.in-Rule.rule c.push-in-Rule.new.self c.entries-test.true
          (c.in_ok-entry_at.ensures.exact ∙ cc) room.1 c.push-in-Rule.ensures;
      ends = then_ends c.entries.invariant.ends c.in_ok-entry_at.ensures.ends;
    }

pub returns-clause-exact : goal.returns-clause-exact
returns-clause-exact g c = none_left c.entries.invariant c.requires.within c.entries-test.false
