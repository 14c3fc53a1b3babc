use Rattle.std.proofs.Common.{rules}
use Rattle.pfr_shelf.specs.Memory.{files_of}
use Rattle.pfr_shelf.proofs.PutLemmas.{store_keeps}
use Rattle.pfr_shelf.proofs.mem_shelf.MemShelfShelf.TheImpl.Goals as goal

pub store-tells : goal.store-tells
store-tells c = record {
  stored = search rules;
  others = λ _. store_keeps (files_of c.args.self.now) (files_of c.new.self.now) c.args.name.now c.args.bytes.now c.result c.ensures.stored c.ensures.stays;
  never_too_long = c.ensures.never_too_long;
  failed = search rules;
  not_counted = c.ensures.not_counted;
  blamed = c.ensures.blamed;
  unblamed = c.ensures.unblamed;
  later = search rules;
}
