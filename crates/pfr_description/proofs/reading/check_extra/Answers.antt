use Rattle.pfr_description.proofs.TableKeys.{no_extra, some_extra}
use Rattle.pfr_description.proofs.reading.check_extra.Goals as goal

pub returns-then-only_has : goal.returns-then-only_has
returns-then-only_has c = no_extra c.args.bank c.args.allowed.now c.args.table.now.entries c.if-only_has.ensures

pub returns-else-only_has : goal.returns-else-only_has
returns-else-only_has c = some_extra c.args.bank c.args.allowed.now c.args.table.now.entries c.if-only_has.ensures
