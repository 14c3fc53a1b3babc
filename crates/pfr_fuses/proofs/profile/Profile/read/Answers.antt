use Rattle.pfr_fuses.proofs.StandsLemmas.{profile_one, profile_two}
use Rattle.pfr_fuses.proofs.profile.Profile.read.Goals as goal

pub returns-then-gate-clause-found : goal.returns-then-gate-clause-found
returns-then-gate-clause-found g c = profile_one _ _ c.in_ok-read.ensures.bytes c.if-gate.true

pub returns-else-gate-clause-found : goal.returns-else-gate-clause-found
returns-else-gate-clause-found g c = profile_two _ _ c.in_ok-read.ensures.bytes c.if-gate.false
