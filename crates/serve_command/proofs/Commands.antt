-- What holds of words of a form of `serve`.
use Rattle.std.proofs.Common.{◌≡◌, ◌≤◌, ℕ, suc, List, [], ◌∷◌, ◌++◌, length, map, refl, ap, subst, arith, inl, inr, codes, length-append}
use Rattle.std.specs.List.{AllByRecursion}
use Rattle.node_commands.specs.Words.{Word, IsWord}
use Rattle.serve_command.specs.declared.words.TheConstants.{MOST_WORDS}
use Rattle.serve_command.specs.ObjectWords.{Object, store, echo, locator, place, adapter, object_word, two_parts, AreShort}
use Rattle.serve_command.specs.Adapters.{Never, Breaks}
use Rattle.serve_command.specs.Steps.{AreSound}
use Rattle.serve_command.specs.Words.{Plain, Serve, plain, operand_words, BehindWorkers, BehindConnections, BehindServe, PlainForm, ServeForm}

module _ (P : List Word → Type 0) (tail : (x : Word) (xs : List Word) → P (x ∷ xs) → P xs) where
  -- what holds of all words holds of those behind the options
  next : (words xs : List Word) (x : Word) → words ≡ x ∷ xs → P words → P xs
  next words xs x is h = tail x xs (subst P is h)

  of_workers : (words : List Word) (p : Plain) → BehindWorkers words p → P words → P (operand_words p)
  of_workers words p (w, rest, e, count, inl b) h = subst P b.0.words_are (next words rest _ e h)
  of_workers words p (w, rest, e, count, inr m) h = subst P m.2.4.0.words_are (next m.0 m.2.1 _ m.2.2 (next rest m.0 _ m.1 (next words rest _ e h)))

  of_connections : (words : List Word) (p : Plain) → BehindConnections words p → P words → P (operand_words p)
  of_connections words p (n, rest, e, count, inl b) h = subst P b.0.words_are (next words rest _ e h)
  of_connections words p (n, rest, e, count, inr m) h = subst P m.2.4.0.words_are (next m.0 m.2.1 _ m.2.2 (next rest m.0 _ m.1 (next words rest _ e h)))

  behind : (words : List Word) (p : Plain) → BehindServe words p → P words → P (operand_words p)
  behind words p (inl b) h = subst P b.0.words_are h
  behind words p (inr (inl b)) h = of_workers b.0 p b.2 (next words b.0 _ b.1 h)
  behind words p (inr (inr b)) h = of_connections b.0 p b.2 (next words b.0 _ b.1 h)

  pub of_operands : (words : List Word) (p : Plain) → PlainForm words p → P words → P (operand_words p)
  of_operands words p f h = behind f.0 p f.2 (next words f.0 _ f.1 h)

-- ---- objects

front_short : (front a b : Word) (most : ℕ) → length (front ++ two_parts a b) ≤ most → (length a ≤ most) × (length b ≤ most)
front_short front a b most short =
    let l = length-append front (two_parts a b) in let m = length-append a (codes "=" ++ b) in let n = length-append (codes "=") b in
    (omega (arith, short, l, m, n), omega (arith, short, l, m, n))

one_short : (o : Object) → IsWord (object_word o) → AreShort o
one_short (store i k) h = (front_short (codes "store=") i k _ h).0
one_short (echo i k) h = (front_short (codes "echo=") i k _ h).0
one_short (locator i) h = omega (arith, h, length-append (codes "locator=") i)
one_short (place i p) h = front_short (codes "place=") i p _ h
one_short (adapter i p) h = (front_short (codes "adapter=") i p _ h).1

pub all_short : (objects : List Object) → AllByRecursion IsWord (map object_word objects) → AllByRecursion AreShort objects
all_short [] h = tt
all_short (o ∷ os) h = (one_short o h.0, all_short os h.1)

-- their texts are no longer than a word
pub texts_short : (words : List Word) (p : Plain) (objects : List Object) → p.objects ≡ map object_word objects → PlainForm words p → AllByRecursion IsWord words → AllByRecursion AreShort objects
texts_short words p objects are form short =
    let all = of_operands (AllByRecursion IsWord) (λ x xs h. h.1) words p form short in
    all_short objects (subst (AllByRecursion IsWord) are all.1.1.1)

pub all_texts_short : (words : List Word) (c : Serve) → ServeForm words c → AllByRecursion AreShort c.objects
all_texts_short words c f = texts_short words f.operands c.objects (ap (λ (p : Plain). p.objects) f.completes.plain_is) f.form f.short

length_map : {A B : Type 0} (f : A → B) (xs : List A) → length (map f xs) ≡ length xs
length_map f [] = refl
length_map f (x ∷ xs) = ap suc (length_map f xs)

-- there are few
pub objects_few : (words : List Word) (c : Serve) → ServeForm words c → length c.objects ≤ MOST_WORDS
objects_few words c f =
    let most = of_operands (λ l. length l ≤ MOST_WORDS) (λ x xs h. omega (arith, h)) words (plain c) (subst (PlainForm words) f.completes.plain_is f.form) f.few in
    omega (arith, most, length_map object_word c.objects)

-- what their texts stand for was seen
pub sound : (words : List Word) (c : Serve) → ServeForm words c → Never Breaks c.objects → AreSound c.objects
sound words c f reads = record {
  short = all_texts_short words c f;
  few = objects_few words c f;
  apart = f.completes.apart;
  reads = reads;
}
