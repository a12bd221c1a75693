use Rattle.std.proofs.Common.{◌≡◌, ◌∷◌, sym, subst, ◌∙◌, ap, ℕ, Bool, true}
use Rattle.simplex_resolver.specs.RepairHistory.{floor, live}
use Rattle.simplex_resolver.specs.Outstanding.{Scans, scan_start, scanned, start_behind}
use Rattle.simplex_resolver.proofs.scanner.Scanner.scan.Goals as goal

pub returns-in_ok-ask_from : goal.returns-in_ok-ask_from
returns-in_ok-ask_from c = λ views h x k went_is raised_is.
    let a = c.in_ok-ask_from.ensures views (x ∷ h) k in
    let start_is : c.scan_start-start.result ≡ start_behind views h x = c.scan_start-start.ensures
    ∙ (ap (λ (l : ℕ). scan_start l c.args.went c.args.self.now.floor c.args.raised) k.holds.length_is
    ∙ (ap (λ (w : ℕ). scan_start views w c.args.self.now.floor c.args.raised) went_is
    ∙ (ap (λ (f : ℕ). scan_start views (scanned h) f c.args.raised) k.floor_is
    ∙ ap (λ (r : Bool). scan_start views (scanned h) (floor (x ∷ h)) r) raised_is))) in
    let live_is : live (x ∷ h) ≡ true = sym k.live_is ∙ c.if-self.true in
    (a.0, rw live_is (subst (λ (s : ℕ). Scans views (x ∷ h) c.args.cause s a.0) start_is a.1), a.2)
