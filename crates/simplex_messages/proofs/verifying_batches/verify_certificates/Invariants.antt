use Rattle.std.proofs.Common.{take, IsTrue, ◌↔◌}
use Rattle.std.specs.List.{AllZip}
use Rattle.messages_certificates.specs.Certificate.{certificate_statement, certified_by}
use Rattle.simplex_messages.proofs.verifying_batches.verify_certificates.Given as goal

-- each certificate so far has its answer
abbrev pub invariant-loop-certificate : goal.invariant-loop-certificate
invariant-loop-certificate g l = AllZip (λ c answer. IsTrue answer ↔ g.S.Scheme.certifies l.scheme (certificate_statement c) (certified_by c)) (take l.certificate-index l.certificates) l.answers.items
