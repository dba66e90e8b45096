-- What follows whichever way a call went.
use Rattle.std.specs.Prelude.{Result, Ok, Err, IfOk, OnErr}

pub ok_then : {A B : Type 0} (r : Result A B) (P Q : A → Type 0) → ((x : A) → P x → Q x) → IfOk r P → IfOk r Q
ok_then (Ok x) P Q f p = f x p
ok_then (Err e) P Q f p = p

pub err_then : {A B : Type 0} (r : Result A B) (P Q : Type 0) → (P → Q) → OnErr r P → OnErr r Q
err_then (Ok x) P Q f p = p
err_then (Err e) P Q f p = f p

pub either_way : {A B : Type 0} (r : Result A B) (P : A → Type 0) (Q S : Type 0) → ((x : A) → P x → S) → (Q → S) → IfOk r P → OnErr r Q → S
either_way (Ok x) P Q S f h p q = f x p
either_way (Err e) P Q S f h p q = h q

pub err_either : {A B : Type 0} (r : Result A B) (Q : Type 0) → Q → OnErr r Q
err_either (Ok x) Q q = tt
err_either (Err e) Q q = q

pub ok_either : {A B : Type 0} (r : Result A B) (P : A → Type 0) → ((x : A) → P x) → IfOk r P
ok_either (Ok x) P f = f x
ok_either (Err e) P f = tt
