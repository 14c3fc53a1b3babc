use Rattle.std.proofs.lemmas.Bool.{false≢true}
use Rattle.toml.specs.Errors.{IsMemory}
use Rattle.pfr_description.proofs.Documents.{document_read, document_refused}
use Rattle.pfr_description.proofs.read.document.Goals as goal

pub returns-in-Ok : goal.returns-in-Ok
returns-in-Ok c = document_read c.args.text.now _ c.in-Ok.ensures.ok.0 c.in-Ok.ensures.ok.1

pub returns-in-Err-2 : goal.returns-in-Err-2
returns-in-Err-2 c =
    document_refused c.args.text.now (c.in-Err.ensures.refused (λ (memory : IsMemory c.in-Err.fault). false≢true (c.if-is_memory.ensures.1 memory)))
