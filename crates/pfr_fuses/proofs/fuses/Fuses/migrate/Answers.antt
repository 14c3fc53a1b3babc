use Rattle.pfr_fuses.proofs.MigrationLemmas.{migrate-exact, migrate-rest, migrate-ok, migrate-err, migrate-loses, migrate-count, migrate-adds, migrate-grows, migrate-provision}
use Rattle.pfr_fuses.proofs.fuses.Fuses.migrate.Goals as goal

pub returns-clause-exact : goal.returns-clause-exact
returns-clause-exact g c = migrate-exact _ _ c.args.self.now c.migrate_fuses.new.self _ c.requires.size c.requires.profile c.requires.stands c.migrate_fuses.ensures.follows c.migrate_fuses.ensures.rows c.migrate_fuses.ensures.bytes c.migrate_fuses.ensures.ok

pub returns-clause-ok : goal.returns-clause-ok
returns-clause-ok g c = migrate-ok _ _ c.args.self.now c.migrate_fuses.new.self _ c.requires.size c.requires.profile c.requires.stands c.migrate_fuses.ensures.follows c.migrate_fuses.ensures.rows c.migrate_fuses.ensures.bytes c.migrate_fuses.ensures.ok

pub returns-clause-err : goal.returns-clause-err
returns-clause-err g c = migrate-err _ _ c.args.self.now c.migrate_fuses.new.self _ c.requires.size c.requires.profile c.requires.stands c.migrate_fuses.ensures.follows c.migrate_fuses.ensures.rows c.migrate_fuses.ensures.bytes c.migrate_fuses.ensures.err

pub returns-clause-within : goal.returns-clause-within
returns-clause-within g c = migrate-adds _ _ c.args.self.now c.migrate_fuses.new.self _ c.requires.size c.requires.profile c.requires.stands c.migrate_fuses.ensures.follows c.migrate_fuses.ensures.rows c.migrate_fuses.ensures.bytes

pub returns-clause-grows : goal.returns-clause-grows
returns-clause-grows g c = migrate-grows _ _ c.args.self.now c.migrate_fuses.new.self _ c.requires.size c.requires.profile c.requires.stands c.migrate_fuses.ensures.follows c.migrate_fuses.ensures.rows c.migrate_fuses.ensures.bytes

pub returns-clause-provision : goal.returns-clause-provision
returns-clause-provision g c = migrate-provision _ _ c.args.self.now c.migrate_fuses.new.self _ c.requires.size c.requires.profile c.requires.stands c.migrate_fuses.ensures.follows c.migrate_fuses.ensures.rows c.migrate_fuses.ensures.bytes

pub returns-clause-count : goal.returns-clause-count
returns-clause-count g c = migrate-count _ _ c.args.self.now c.migrate_fuses.new.self _ c.requires.size c.requires.profile c.requires.stands c.migrate_fuses.ensures.follows c.migrate_fuses.ensures.rows c.migrate_fuses.ensures.bytes

pub returns-clause-rest : goal.returns-clause-rest
returns-clause-rest g c = migrate-rest _ _ c.args.self.now c.migrate_fuses.new.self _ c.requires.size c.requires.profile c.requires.stands c.migrate_fuses.ensures.follows c.migrate_fuses.ensures.rows c.migrate_fuses.ensures.bytes c.migrate_fuses.ensures.ok c.migrate_fuses.ensures.err

pub returns-clause-loses : goal.returns-clause-loses
returns-clause-loses g c = migrate-loses _ _ c.args.self.now c.migrate_fuses.new.self _ c.requires.size c.requires.profile c.requires.stands c.migrate_fuses.ensures.follows c.migrate_fuses.ensures.rows c.migrate_fuses.ensures.bytes
