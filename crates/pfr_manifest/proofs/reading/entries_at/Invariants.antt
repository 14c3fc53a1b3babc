use Rattle.std.proofs.Common.{◌-◌, drop}
use Rattle.pfr_flash.specs.Bytes.{bytes_at}
use Rattle.pfr_flash.specs.FlashState.{now}
use Rattle.pfr_manifest.specs.Judge.{turns_left, judge_entries}
use Rattle.pfr_manifest.proofs.LoopLemmas.{IsReading}
use Rattle.pfr_manifest.proofs.reading.entries_at.Given as goal

abbrev pub invariant-entries : goal.invariant-entries
invariant-entries g l = IsReading (g.F.Flash.device l.fn.flash) (g.F.Flash.device l.flash) l.place l.size l.at l.manifest l.layout l.bank
    (judge_entries (turns_left l.fn.manifest) (drop 32 (bytes_at (now (g.F.Flash.device l.fn.flash)) l.place l.size)) 32 l.fn.manifest l.layout l.bank)

abbrev pub decreases-entries : goal.decreases-entries
decreases-entries g l = l.size - l.at
