use Rattle.pfr_fuses.proofs.ClearingLemmas.{raise-floor, raise-ok, raise-err, raise-exact, raise-rest, raise-stays, raise-leaves, raise-changed, raise-count}
use Rattle.pfr_fuses.proofs.fuses.Fuses.raise.Goals as goal

pub returns-clause-floor : goal.returns-clause-floor
returns-clause-floor g c = raise-floor c.args.bank c.args.to _ _ c.args.self.now c.raise_fuse.new.self _ c.requires.size c.requires.profile c.requires.to c.raise_fuse.ensures.follows c.raise_fuse.ensures.ok c.raise_fuse.ensures.fuses

pub returns-clause-ok : goal.returns-clause-ok
returns-clause-ok g c = raise-ok c.args.bank c.args.to _ _ c.args.self.now c.raise_fuse.new.self _ c.requires.size c.requires.profile c.requires.to c.raise_fuse.ensures.follows c.requires.stands c.raise_fuse.ensures.ok c.raise_fuse.ensures.fuses

pub returns-clause-err : goal.returns-clause-err
returns-clause-err g c = raise-err c.args.bank c.args.to _ _ c.args.self.now c.raise_fuse.new.self _ c.requires.size c.requires.profile c.requires.to c.raise_fuse.ensures.follows c.requires.stands

pub returns-clause-stays : goal.returns-clause-stays
returns-clause-stays g c = raise-stays c.args.bank c.args.to _ _ c.args.self.now c.raise_fuse.new.self _ c.requires.size c.requires.profile c.requires.to c.raise_fuse.ensures.follows c.raise_fuse.ensures.ok c.raise_fuse.ensures.err

pub returns-clause-within : goal.returns-clause-within
returns-clause-within g c = (raise-leaves c.args.bank c.args.to _ _ c.args.self.now c.raise_fuse.new.self _ c.requires.size c.requires.profile c.requires.to c.raise_fuse.ensures.follows).adds

pub returns-clause-outside : goal.returns-clause-outside
returns-clause-outside g c = (raise-changed c.args.bank c.args.to _ _ c.args.self.now c.raise_fuse.new.self _ c.requires.size c.requires.profile c.requires.to c.raise_fuse.ensures.follows).outside

pub returns-clause-grows : goal.returns-clause-grows
returns-clause-grows g c = (raise-leaves c.args.bank c.args.to _ _ c.args.self.now c.raise_fuse.new.self _ c.requires.size c.requires.profile c.requires.to c.raise_fuse.ensures.follows).grows

pub returns-clause-provision : goal.returns-clause-provision
returns-clause-provision g c = (raise-leaves c.args.bank c.args.to _ _ c.args.self.now c.raise_fuse.new.self _ c.requires.size c.requires.profile c.requires.to c.raise_fuse.ensures.follows).provision

pub returns-clause-exact : goal.returns-clause-exact
returns-clause-exact g c = raise-exact c.args.bank c.args.to _ _ c.args.self.now c.raise_fuse.new.self _ c.requires.size c.requires.profile c.requires.to c.raise_fuse.ensures.follows c.raise_fuse.ensures.ok

pub returns-clause-rest : goal.returns-clause-rest
returns-clause-rest g c = raise-rest c.args.bank c.args.to _ _ c.args.self.now c.raise_fuse.new.self _ c.requires.size c.requires.profile c.requires.to c.raise_fuse.ensures.follows c.raise_fuse.ensures.ok c.raise_fuse.ensures.err

pub returns-clause-count : goal.returns-clause-count
returns-clause-count g c = raise-count c.args.bank c.args.to _ _ c.args.self.now c.raise_fuse.new.self _ c.requires.size c.requires.profile c.requires.to c.raise_fuse.ensures.follows

pub returns-clause-loses : goal.returns-clause-loses
returns-clause-loses g c = (raise-leaves c.args.bank c.args.to _ _ c.args.self.now c.raise_fuse.new.self _ c.requires.size c.requires.profile c.requires.to c.raise_fuse.ensures.follows).loses
