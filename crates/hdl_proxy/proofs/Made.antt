-- What two, three or five clauses say of an answer, said at once.
use Rattle.std.specs.Prelude.{Result, Ok, Err, IfOk}

pub made : {A E : Type 0} (r : Result A E) (P Q R : A → Type 0) → ((a : A) → P a → Q a → R a) → IfOk r P → IfOk r Q → IfOk r R
made (Ok a) P Q R f p q = f a p q
made (Err e) P Q R f p q = tt

pub made_of : {A E : Type 0} (r : Result A E) (P Q R S : A → Type 0) → ((a : A) → P a → Q a → R a → S a) → IfOk r P → IfOk r Q → IfOk r R → IfOk r S
made_of (Ok a) P Q R S f p q r = f a p q r
made_of (Err e) P Q R S f p q r = tt

pub made_so : {A E : Type 0} (r : Result A E) (P Q R S T U : A → Type 0) → ((a : A) → P a → Q a → R a → S a → T a → U a) → IfOk r P → IfOk r Q → IfOk r R → IfOk r S → IfOk r T → IfOk r U
made_so (Ok a) P Q R S T U f p q r s t = f a p q r s t
made_so (Err e) P Q R S T U f p q r s t = tt
