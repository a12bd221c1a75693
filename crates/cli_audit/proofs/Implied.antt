-- What follows of what is known of a text.
use Rattle.std.proofs.Common.{None, Some, IfSome, Option}

-- where it is known, the value has each property that what is said of it implies
pub IfSome-implies : {X : Type 0} (o : Option X) (P Q : X → Type 0) → IfSome o P → ((x : X) → P x → Q x) → IfSome o Q
IfSome-implies None P Q h f = tt
IfSome-implies (Some x) P Q h f = f x h
