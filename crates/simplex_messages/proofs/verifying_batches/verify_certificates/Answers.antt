use Rattle.std.proofs.Common.{◌≡◌, ℕ, ◌+◌, ◌<◌, ◌≤◌, List, [], ◌∷◌, ◌++◌, length, take, get_or, sym, subst, Bool, IsTrue, ◌↔◌}
use Rattle.std.specs.List.{AllZip}
use Rattle.std.proofs.lemmas.List.{take_more, take_all}
use Rattle.messages_certificates.specs.declared.certificate.Certificate.{Certificate}
use Rattle.messages_certificates.specs.Certificate.{certificate_statement, certified_by}
use Rattle.simplex_messages.proofs.verifying_batches.verify_certificates.Goals as goal

-- one more on each side
push : {A B : Type 0} (R : A → B → Type 0) (xs : List A) (ys : List B) (x : A) (y : B) → AllZip R xs ys → R x y → AllZip R (xs ++ x ∷ []) (ys ++ y ∷ [])
push R [] [] x y all one = (one, tt)
push R [] (b ∷ ys) x y all one = absurd all
push R (a ∷ xs) [] x y all one = absurd all
push R (a ∷ xs) (b ∷ ys) x y all one = (all.0, push R xs ys x y all.1 one)

-- the values up to i, and that at i
next : {A B : Type 0} (R : A → B → Type 0) (xs : List A) (i : ℕ) (ys : List B) (x : A) (y : B) (more : List B) → i < length xs → x ≡ get_or xs i x → more ≡ ys ++ y ∷ [] → AllZip R (take i xs) ys → R x y → AllZip R (take (i + 1) xs) more
next {A} {B} R xs i ys x y more below is pushed all one =
    let Left : List A → Type 0 = λ l. AllZip R l more in
    let Right : List B → Type 0 = λ l. AllZip R (take i xs ++ get_or xs i x ∷ []) l in
    let Last : A → Type 0 = λ a. R a y in
    subst Left (sym (take_more xs i x below)) (subst Right (sym pushed) (push R (take i xs) ys (get_or xs i x) y all (subst Last is one)))

-- all the values
all : {A B : Type 0} (R : A → B → Type 0) (xs : List A) (i : ℕ) (ys : List B) → length xs ≤ i → AllZip R (take i xs) ys → AllZip R xs ys
all {A} R xs i ys past each = let Left : List A → Type 0 = λ l. AllZip R l ys in subst Left (take_all i xs past) each

pub loop-certificate-preserved : goal.loop-certificate-preserved
loop-certificate-preserved g c =
    let Says : Certificate _ _ _ _ _ → Bool → Type 0 = λ x answer. IsTrue answer ↔ g.S.Scheme.certifies c.args.scheme.now (certificate_statement x) (certified_by x) in
    next Says c.args.certificates.now c.loop-certificate.certificate-index c.loop-certificate.answers.items c.certificate-item.result c.verify.result c.push.new.self.items
    c.loop-certificate-test.true c.certificate-item.is c.in_ok-push.ensures.items c.loop-certificate.invariant c.verify.ensures

pub returns : goal.returns
returns g c =
    let Says : Certificate _ _ _ _ _ → Bool → Type 0 = λ x answer. IsTrue answer ↔ g.S.Scheme.certifies c.args.scheme.now (certificate_statement x) (certified_by x) in
    all Says c.args.certificates.now c.loop-certificate.certificate-index c.loop-certificate.answers.items c.loop-certificate-test.false c.loop-certificate.invariant
