-- Reading entries from a flash, one after the other.
use Rattle.std.proofs.Common.{◌≡◌, ℕ, suc, ◌+◌, ◌-◌, ◌<◌, ◌≤◌, List, [], ◌∷◌, ◌++◌, length, take, drop, Result, Ok, Err, None, sym, ap, ◌∙◌, arith, length-drop}
use Rattle.std.proofs.lemmas.List.{drop-drop, drop-take, drop_all}
use Rattle.pfr_flash.specs.Bytes.{bytes_at}
use Rattle.pfr_flash.specs.FlashState.{FlashState, now, size_of}
use Rattle.pfr_flash.specs.Reading.{EndsAt}
use Rattle.pfr_flash.specs.declared.layout.Layout.{Layout}
use Rattle.pfr_flash.proofs.RangeLemmas.{length-now}
use Rattle.pfr_flash.proofs.EndsLemmas.{ends_content}
use Rattle.pfr_manifest.specs.declared.manifest.Manifest.{Manifest}
use Rattle.pfr_manifest.specs.declared.region.Region.{Region}
use Rattle.pfr_manifest.specs.declared.rule.Rule.{Rule}
use Rattle.pfr_manifest.specs.declared.entry.Entry.{Entry}
use Rattle.pfr_manifest.specs.declared.entry.Entry.TheVariants as entries
use Rattle.pfr_manifest.specs.declared.fail.ManifestFail.{ManifestFail}
use Rattle.pfr_flash.specs.Answer.{Answers}
use Rattle.pfr_manifest.specs.Answer.{manifest_failure}
use Rattle.pfr_flash.specs.Judging.{◌>>◌}
use Rattle.pfr_manifest.specs.Judge.{judge_entry, judge_tail, judge_entries, turns_left, region_len, with_region, with_rule}
use Rattle.pfr_flash.proofs.BytesLemmas.{length-bytes_at}
use Rattle.pfr_flash.proofs.AnswerLemmas.{refused}
use Rattle.pfr_manifest.proofs.EntryLemmas.{judge_none, step_err, step_tail, step_region, step_rule, turns_some, turns-region, turns-rule}

-- A loop has read the entries up to a place. What is left, behind those of m, is to be judged as all of them.
pub record IsReading (old mid : FlashState) (place size at : ℕ) (m : Manifest) (layout : Layout) (bank : ℕ) (all : Result Manifest ManifestFail) : Type 0 where
  pub within : at ≤ size
  pub few_regions : length m.regions ≤ 64
  pub few_rules : length m.rules ≤ 64
  pub exact : judge_entries (turns_left m) (drop at (bytes_at (now old) place size)) at m layout bank ≡ all
  pub ends : EndsAt None old mid

-- the bytes behind the first ones
drop-bytes_at : (image : List ℕ) (place size at : ℕ) → at ≤ size → drop at (bytes_at image place size) ≡ bytes_at image (place + at) (size - at)
drop-bytes_at image place size at h =
    let e : size ≡ at + (size - at) = omega arith in
    let a : drop at (take (at + (size - at)) (drop place image)) ≡ take (size - at) (drop at (drop place image)) = drop-take at (size - at) (drop place image) in
    ap (λ n. drop at (take n (drop place image))) e ∙ a ∙ ap (take (size - at)) (drop-drop at place image)

-- the judgement of the entry at the place
abbrev pub entry_there : FlashState → ℕ → ℕ → ℕ → Manifest → Layout → ℕ → Result Entry ManifestFail
entry_there d place size at m layout bank = judge_entry (take 64 (bytes_at (now d) (place + at) (size - at))) at m layout bank

length-all : (old : FlashState) (place size : ℕ) → place + size ≤ size_of old → length (bytes_at (now old) place size) ≡ size
length-all old place size fits = length-bytes_at (now old) place size (omega (arith, length-now old))

module _ {old mid : FlashState} {place size at : ℕ} {m : Manifest} {layout : Layout} {bank : ℕ} {all : Result Manifest ManifestFail} (r : IsReading old mid place size at m layout bank all) (fits : place + size ≤ size_of old) where
  -- what is read next is what is left
  left_is : (later : FlashState) → now later ≡ now old → bytes_at (now later) (place + at) (size - at) ≡ drop at (bytes_at (now old) place size)
  left_is later content = ap (λ image. bytes_at image (place + at) (size - at)) content ∙ sym (drop-bytes_at (now old) place size at r.within)

  some_left : at < size → 0 < length (drop at (bytes_at (now old) place size))
  some_left left = omega (arith, length-drop at (bytes_at (now old) place size), length-all old place size fits)

  turns_more : turns_left m ≡ suc (128 - (length m.regions + length m.rules))
  turns_more = turns_some m r.few_regions r.few_rules

  judged_here : (result : Result Entry ManifestFail) → entry_there mid place size at m layout bank ≡ result → judge_entry (take 64 (drop at (bytes_at (now old) place size))) at m layout bank ≡ result
  judged_here result h = ap (λ rest. judge_entry (take 64 rest) at m layout bank) (sym (left_is mid (ends_content r.ends))) ∙ h

  pub entry_refused : (cause : ManifestFail) → at < size → Answers manifest_failure (Err cause) (entry_there mid place size at m layout bank) → Answers manifest_failure (Err cause) all
  entry_refused cause left = refused manifest_failure cause _ all
      (λ e. sym r.exact ∙ step_err (turns_left m) _ _ at m layout bank turns_more (some_left left) cause (judged_here (Err cause) e))

  pub tail_judged : (later : FlashState) (result : Result (Unit {0}) ManifestFail) → at < size → entry_there mid place size at m layout bank ≡ Ok entries.Tail → now later ≡ now old
      → judge_tail (bytes_at (now later) (place + at) (size - at)) ≡ result → all ≡ (result >> Ok m)
  tail_judged later result left h content e =
      let t : judge_tail (drop at (bytes_at (now old) place size)) ≡ result = ap judge_tail (sym (left_is later content)) ∙ e in
      sym r.exact ∙ step_tail (turns_left m) _ _ at m layout bank turns_more (some_left left) (judged_here (Ok entries.Tail) h) ∙ ap (λ judged. judged >> Ok m) t

  pub tail_refused : (later : FlashState) (cause : ManifestFail) → at < size → entry_there mid place size at m layout bank ≡ Ok entries.Tail → now later ≡ now old
      → Answers manifest_failure (Err cause) (judge_tail (bytes_at (now later) (place + at) (size - at))) → Answers manifest_failure (Err cause) all
  tail_refused later cause left h content = refused manifest_failure cause _ all (λ e. tail_judged later (Err cause) left h content e)

  pub region_read : (region : Region) (regions : List Region) (len : ℕ) → at < size → entry_there mid place size at m layout bank ≡ Ok (entries.Region region)
      → length m.regions < 64 → regions ≡ m.regions ++ region ∷ [] → len ≡ region_len region
      → judge_entries (turns_left (record m { regions = regions })) (drop (at + len) (bytes_at (now old) place size)) (at + len) (record m { regions = regions }) layout bank ≡ all
  region_read region regions len left h few pushed long =
      let s = step_region (turns_left m) (turns_left (with_region m region)) (drop at (bytes_at (now old) place size)) at m layout bank (turns-region m region few r.few_rules) (some_left left) region (judged_here (Ok (entries.Region region)) h) in
      let d : drop (region_len region) (drop at (bytes_at (now old) place size)) ≡ drop (at + region_len region) (bytes_at (now old) place size) = drop-drop (region_len region) at (bytes_at (now old) place size) in
      rw (pushed, long, ← d) (sym s ∙ r.exact)

  pub rule_read : (rule : Rule) (rules : List Rule) → at < size → entry_there mid place size at m layout bank ≡ Ok (entries.Rule rule)
      → length m.rules < 64 → rules ≡ m.rules ++ rule ∷ []
      → judge_entries (turns_left (record m { rules = rules })) (drop (at + 40) (bytes_at (now old) place size)) (at + 40) (record m { rules = rules }) layout bank ≡ all
  rule_read rule rules left h few pushed =
      let s = step_rule (turns_left m) (turns_left (with_rule m rule)) (drop at (bytes_at (now old) place size)) at m layout bank (turns-rule m rule r.few_regions few) (some_left left) rule (judged_here (Ok (entries.Rule rule)) h) in
      let d : drop 40 (drop at (bytes_at (now old) place size)) ≡ drop (at + 40) (bytes_at (now old) place size) = drop-drop 40 at (bytes_at (now old) place size) in
      rw (pushed, ← d) (sym s ∙ r.exact)

  pub none_left : size ≤ at → all ≡ Ok m
  none_left h =
      let long = length-all old place size fits in
      let e : drop at (bytes_at (now old) place size) ≡ [] = drop_all at (bytes_at (now old) place size) (omega arith) in
      sym r.exact ∙ ap (λ rest. judge_entries (turns_left m) rest at m layout bank) e ∙ judge_none (turns_left m) at m layout bank
