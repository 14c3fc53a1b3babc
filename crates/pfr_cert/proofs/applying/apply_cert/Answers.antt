use Rattle.pfr_cert.proofs.Parts.{same_rest}
use Rattle.pfr_cert.proofs.applying.apply_cert.Goals as goal

pub returns-in_err-check_key-clause-rest : goal.returns-in_err-check_key-clause-rest
returns-in_err-check_key-clause-rest g c = λ h. same_rest _ _ _ h
