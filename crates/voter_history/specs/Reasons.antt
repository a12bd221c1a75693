-- Why a view is given up, in words.
use Rattle.std.specs.Prelude.{ℕ, List, codes}
use Rattle.voter_history.specs.declared.timeout_reason.TimeoutReason.{TimeoutReason}
use Rattle.voter_history.specs.declared.timeout_reason.TimeoutReason.TheVariants as reason

-- the name of a reason
abbrev pub reason_name : TimeoutReason → List ℕ
reason_name reason.Retry = codes "Retry"
reason_name reason.Inactivity = codes "Inactivity"
reason_name reason.LeaderNullify = codes "LeaderNullify"
reason_name reason.LeaderTimeout = codes "LeaderTimeout"
reason_name reason.CertificationTimeout = codes "CertificationTimeout"
reason_name reason.StallTimeout = codes "StallTimeout"
reason_name reason.MissingProposal = codes "MissingProposal"
reason_name reason.IgnoredProposal = codes "IgnoredProposal"
reason_name reason.InvalidProposal = codes "InvalidProposal"
reason_name reason.FailedCertification = codes "FailedCertification"
