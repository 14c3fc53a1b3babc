use Rattle.std.proofs.Common.{ap, Bool, false, subst, sym, Some}
use Rattle.pfr_flash.specs.FlashState.{FlashState, now}
use Rattle.pfr_flash.specs.declared.layout.Layout.{Layout}
use Rattle.pfr_report.specs.declared.note.What.TheVariants.{Released}
use Rattle.pfr_story.specs.declared.line.Line.TheVariants as line
use Rattle.pfr_machine.specs.Inside.{AreBeside, IsLaid}
use Rattle.pfr_machine.specs.Worlds.{Latches, desk_world, flash_in, latch_in, latches_by, sits_in}
use Rattle.pfr_machine.specs.declared.seat.Seat.TheVariants as seat
use Rattle.pfr_machine.proofs.DeskLemmas.{state_store}
use Rattle.pfr_machine.proofs.LaidLemmas.{ruled_laid}
use Rattle.pfr_machine.proofs.SeatLemmas.{desk_beside}
use Rattle.pfr_machine.proofs.WorldLemmas.{after_released, other_released, released_latches}
use Rattle.pfr_machine.proofs.desk.release.Goals as goal

pub inner-requires : goal.inner-requires
inner-requires g c =
    let latches : Latches = latches_by c.args.bank false (latch_in c.args.other) in
    let what = Released c.args.bank c.manifest.result.now.svn c.args.counts in
    let mine = g.F.Flash.device c.args.checked.flash in
    let other = g.F.Flash.device (flash_in c.args.other) in
    let laid : IsLaid c.args.bank c.release-running.result.layout (now (desk_world c.args.bank mine other (g.F.Flash.device c.args.board.nv) latches c.args.board).nv) =
    subst (λ (d : FlashState). IsLaid c.args.bank c.release-running.result.layout (now d)) (sym (state_store c.args.bank mine other (g.F.Flash.device c.args.board.nv) latches c.args.board))
    (subst (λ (l : Layout). IsLaid c.args.bank l (now (g.F.Flash.device c.args.board.nv))) (sym c.release-running.ensures.layout) c.requires.laid) in
    let beside = desk_beside g.F.Flash.device c.args.bank c.args.checked.bank (sits_in c.args.other) mine (g.F.Flash.device c.release-running.result.flash) other latches c.args.board
    c.requires.desk c.requires.on (ap g.F.Flash.device c.release-running.ensures.flash)
    what (released_latches c.args.bank c.manifest.result.now.svn c.args.counts false (latch_in c.args.other)) c.push.new.self c.push.ensures.noted
    (record { whose = c.release-running.result.bank; line = line.Running; latch = c.release-running.result.latch; ruling = Some (record { manifest = c.release-running.result.manifest; layout = c.release-running.result.layout }) }) c.release-running.ensures.bank (ruled_laid c.args.bank c.release-running.result.manifest c.release-running.result.layout _ laid) tt
    (after_released c.args.bank c.manifest.result.now.svn c.args.counts) (other_released c.args.bank c.manifest.result.now.svn c.args.counts) in
    let off = sym c.release-running.ensures.latch in
    record { seated = subst (λ (latch : Bool). AreBeside c.args.bank (sits_in (seat.Running c.release-running.result)) (sits_in c.args.other) (desk_world c.args.bank (g.F.Flash.device c.release-running.result.flash) other (g.F.Flash.device c.push.new.self.nv) (latches_by c.args.bank latch (latch_in c.args.other)) c.push.new.self)) off beside }
