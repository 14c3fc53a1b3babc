use Rattle.pfr_filter.proofs.tests.want_counted.Given as goal

abbrev pub ghosts-want_all : goal.ghosts-want_all
ghosts-want_all g a = record { name = a.blank.name; parts = a.blank.parts }
