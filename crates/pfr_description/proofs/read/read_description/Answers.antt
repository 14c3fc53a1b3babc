use Rattle.pfr_description.proofs.Documents.{top_read}
use Rattle.pfr_description.proofs.read.read_description.Goals as goal

pub returns : goal.returns
returns c = record { exact = top_read c.read_top.result c.args.text.now _ c.in_ok-top.ensures c.read_top.ensures }
