use Rattle.std.proofs.Common.{arith}
use Rattle.pfr_fuses.proofs.ClearingLemmas.{cancel-ok, cancel-done, cancel-store, cancel-exact, cancel-rest, cancel-stays, cancel-leaves, cancel-changed, cancel-count}
use Rattle.pfr_fuses.proofs.fuses.Fuses.cancel.Goals as goal

pub returns-clause-ok : goal.returns-clause-ok
returns-clause-ok g c = cancel-ok c.args.ty c.args.id _ _ c.args.self.now c.cancel_key.new.self _ c.requires.size c.requires.profile c.requires.signing (omega arith) c.cancel_key.ensures.follows c.requires.stands c.cancel_key.ensures.fuses

pub returns-clause-done : goal.returns-clause-done
returns-clause-done g c = cancel-done c.args.ty c.args.id _ _ c.args.self.now c.cancel_key.new.self _ c.requires.size c.requires.profile c.requires.signing (omega arith) c.cancel_key.ensures.follows

pub returns-clause-store : goal.returns-clause-store
returns-clause-store g c = cancel-store c.args.ty c.args.id _ _ c.args.self.now c.cancel_key.new.self _ c.requires.size c.requires.profile c.requires.signing (omega arith) c.cancel_key.ensures.follows

pub returns-clause-stays : goal.returns-clause-stays
returns-clause-stays g c = cancel-stays c.args.ty c.args.id _ _ c.args.self.now c.cancel_key.new.self _ c.requires.size c.requires.profile c.requires.signing (omega arith) c.cancel_key.ensures.follows c.cancel_key.ensures.ok c.cancel_key.ensures.err

pub returns-clause-within : goal.returns-clause-within
returns-clause-within g c = (cancel-leaves c.args.ty c.args.id _ _ c.args.self.now c.cancel_key.new.self _ c.requires.size c.requires.profile c.requires.signing (omega arith) c.cancel_key.ensures.follows).adds

pub returns-clause-outside : goal.returns-clause-outside
returns-clause-outside g c = (cancel-changed c.args.ty c.args.id _ _ c.args.self.now c.cancel_key.new.self _ c.requires.size c.requires.profile c.requires.signing (omega arith) c.cancel_key.ensures.follows).outside

pub returns-clause-grows : goal.returns-clause-grows
returns-clause-grows g c = (cancel-leaves c.args.ty c.args.id _ _ c.args.self.now c.cancel_key.new.self _ c.requires.size c.requires.profile c.requires.signing (omega arith) c.cancel_key.ensures.follows).grows

pub returns-clause-provision : goal.returns-clause-provision
returns-clause-provision g c = (cancel-leaves c.args.ty c.args.id _ _ c.args.self.now c.cancel_key.new.self _ c.requires.size c.requires.profile c.requires.signing (omega arith) c.cancel_key.ensures.follows).provision

pub returns-clause-exact : goal.returns-clause-exact
returns-clause-exact g c = cancel-exact c.args.ty c.args.id _ _ c.args.self.now c.cancel_key.new.self _ c.requires.size c.requires.profile c.requires.signing (omega arith) c.cancel_key.ensures.follows c.cancel_key.ensures.ok

pub returns-clause-rest : goal.returns-clause-rest
returns-clause-rest g c = cancel-rest c.args.ty c.args.id _ _ c.args.self.now c.cancel_key.new.self _ c.requires.size c.requires.profile c.requires.signing (omega arith) c.cancel_key.ensures.follows c.cancel_key.ensures.ok c.cancel_key.ensures.err

pub returns-clause-count : goal.returns-clause-count
returns-clause-count g c = cancel-count c.args.ty c.args.id _ _ c.args.self.now c.cancel_key.new.self _ c.requires.size c.requires.profile c.requires.signing (omega arith) c.cancel_key.ensures.follows

pub returns-clause-loses : goal.returns-clause-loses
returns-clause-loses g c = (cancel-leaves c.args.ty c.args.id _ _ c.args.self.now c.cancel_key.new.self _ c.requires.size c.requires.profile c.requires.signing (omega arith) c.cancel_key.ensures.follows).loses
