use Rattle.pfr_fuses.proofs.ProvisionLemmas.{provision-ok, provision-slot, provision-found, provision-err, provision-fuses, provision-within, provision-outside, provision-grows, provision-keeps, provision-loses, provision-count, provision-worked}
use Rattle.pfr_fuses.proofs.provisioning.provision.Goals as goal

pub returns-clause-ok : goal.returns-clause-ok
returns-clause-ok g c = provision-ok (g.F.Flash.device c.args.nv.now) (g.F.Flash.device c.provision_slot.new.nv) c.args.what.now c.args.bmc_size c.args.pch_size c.provision_slot.result
    c.requires c.provision_slot.ensures.slot c.provision_slot.ensures.exact

pub returns-clause-slot : goal.returns-clause-slot
returns-clause-slot g c = provision-slot (g.F.Flash.device c.args.nv.now) (g.F.Flash.device c.provision_slot.new.nv) c.args.what.now c.args.bmc_size c.args.pch_size c.provision_slot.result
    c.requires c.provision_slot.ensures.slot c.provision_slot.ensures.exact

pub returns-clause-found : goal.returns-clause-found
returns-clause-found g c = provision-found (g.F.Flash.device c.args.nv.now) (g.F.Flash.device c.provision_slot.new.nv) c.args.what.now c.args.bmc_size c.args.pch_size c.provision_slot.result
    c.requires c.provision_slot.ensures.slot c.provision_slot.ensures.exact

pub returns-clause-err : goal.returns-clause-err
returns-clause-err g c = provision-err (g.F.Flash.device c.args.nv.now) (g.F.Flash.device c.provision_slot.new.nv) c.args.what.now c.args.bmc_size c.args.pch_size c.provision_slot.result
    c.requires c.provision_slot.ensures.slot c.provision_slot.ensures.exact

pub returns-clause-fuses : goal.returns-clause-fuses
returns-clause-fuses g c = provision-fuses (g.F.Flash.device c.args.nv.now) (g.F.Flash.device c.provision_slot.new.nv) c.args.what.now c.args.bmc_size c.args.pch_size c.provision_slot.result
    c.requires c.provision_slot.ensures.slot c.provision_slot.ensures.exact

pub returns-clause-within : goal.returns-clause-within
returns-clause-within g c = provision-within (g.F.Flash.device c.args.nv.now) (g.F.Flash.device c.provision_slot.new.nv) c.args.what.now c.args.bmc_size c.args.pch_size c.provision_slot.result
    c.requires c.provision_slot.ensures.slot c.provision_slot.ensures.exact

pub returns-clause-outside : goal.returns-clause-outside
returns-clause-outside g c = provision-outside (g.F.Flash.device c.args.nv.now) (g.F.Flash.device c.provision_slot.new.nv) c.args.what.now c.args.bmc_size c.args.pch_size c.provision_slot.result
    c.requires c.provision_slot.ensures.slot c.provision_slot.ensures.exact

pub returns-clause-grows : goal.returns-clause-grows
returns-clause-grows g c = provision-grows (g.F.Flash.device c.args.nv.now) (g.F.Flash.device c.provision_slot.new.nv) c.args.what.now c.args.bmc_size c.args.pch_size c.provision_slot.result
    c.requires c.provision_slot.ensures.slot c.provision_slot.ensures.exact

pub returns-clause-provision : goal.returns-clause-provision
returns-clause-provision g c = provision-keeps (g.F.Flash.device c.args.nv.now) (g.F.Flash.device c.provision_slot.new.nv) c.args.what.now c.args.bmc_size c.args.pch_size c.provision_slot.result
    c.requires c.provision_slot.ensures.slot c.provision_slot.ensures.exact

pub returns-clause-worked : goal.returns-clause-worked
returns-clause-worked g c = provision-worked (g.F.Flash.device c.args.nv.now) (g.F.Flash.device c.provision_slot.new.nv) c.args.what.now c.args.bmc_size c.args.pch_size c.provision_slot.result
    c.requires c.provision_slot.ensures.slot c.provision_slot.ensures.exact

pub returns-clause-count : goal.returns-clause-count
returns-clause-count g c = provision-count (g.F.Flash.device c.args.nv.now) (g.F.Flash.device c.provision_slot.new.nv) c.args.what.now c.args.bmc_size c.args.pch_size c.provision_slot.result
    c.requires c.provision_slot.ensures.slot c.provision_slot.ensures.exact

pub returns-clause-loses : goal.returns-clause-loses
returns-clause-loses g c = provision-loses (g.F.Flash.device c.args.nv.now) (g.F.Flash.device c.provision_slot.new.nv) c.args.what.now c.args.bmc_size c.args.pch_size c.provision_slot.result
    c.requires c.provision_slot.ensures.slot c.provision_slot.ensures.exact
