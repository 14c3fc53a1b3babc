use Rattle.std.proofs.Common.{◌≡◌, ◌*◌, ◌≤◌, vec_len}
use Rattle.pfr_made.specs.Pages.{payload_of}
use Rattle.pfr_tool.proofs.pages.payload_of.Given as goal

abbrev pub invariant-loop-page : goal.invariant-loop-page
invariant-loop-page l = record {
  bytes : l.payload.items ≡ payload_of l.part l.image l.page;
  short : vec_len l.payload ≤ 4096 * l.page;
}
