use Rattle.std.proofs.Common.{map, subst}
use Rattle.journal_single.specs.Record.{Reads}
use Rattle.simplex_member.specs.Recorded.{kept_of}
use Rattle.simplex_member.proofs.laws.one_record_is_read.Goals as goal

pub returns : goal.returns
returns g c = λ f s spelled h image found fits fits_found reads reads_found. c.a_disk_reads_as_one_record.ensures.messages image found (kept_of s.voter.length h) fits_found fits
    (subst (λ spelling. Reads image (map spelling found)) spelled reads_found) (subst (λ spelling. Reads image (map spelling (kept_of s.voter.length h))) spelled reads)
