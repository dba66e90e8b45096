-- At most one answer refuses, and where one does no objects are made.
use Rattle.std.proofs.Common.{◌≡◌, ◌<◌, ◌⊎◌, ℕ, List, Some, sym, ap, subst, ◌∙◌, inl, inr}
use Rattle.std.specs.Prelude.{slice_get}
use Rattle.std.proofs.lemmas.Option.{same_Some}
use Rattle.std.proofs.lemmas.Bool.{cases_order}
use Rattle.ice_types.specs.Tables.{Tables}
use Rattle.slice_meaning.proofs.Loads.{one_meaning, one_break, never_both}
use Rattle.object_adapter.specs.Objects.{Objects}
use Rattle.node_commands.specs.Words.{Word}
use Rattle.node_commands.specs.Outside.{Files}
use Rattle.node_commands.specs.Answers.{Answer, no_such_name, slice_refused, text_refused}
use Rattle.node_commands.specs.Decided.{WithSchema}
use Rattle.serve_command.specs.ObjectWords.{Object, store, echo, locator, place, adapter}
use Rattle.serve_command.specs.Words.{Serve}
use Rattle.serve_command.specs.Adapters.{First, Never, LacksInterface, Breaks}
use Rattle.serve_command.specs.Served.{WithInterfaces, WithTexts, Refuses, Sets}
use Rattle.serve_command.specs.Laws.{AreSingle}

-- ---- the first word that is wrong

module _ {X : Type 0} (Is : Object → X → Type 0) (one : (o : Object) (x y : X) → Is o x → Is o y → x ≡ y) where
  -- of the same objects, the first is one, and what holds of it is too
  pub first_once : (objects : List Object) (x y : X) → First Is objects x → First Is objects y → x ≡ y
  first_once objects x y f g = by (cases_order f.at g.at)
    where
      by : (f.at ≡ g.at) ⊎ ((f.at < g.at) ⊎ (g.at < f.at)) → x ≡ y
      by (inl e) =
          let same : f.object ≡ g.object = same_Some f.object g.object (sym f.there ∙ ap (λ (i : ℕ). slice_get objects i) e ∙ g.there) in
          one g.object x y (subst (λ (o : Object). Is o x) same f.is) g.is
      by (inr (inl lt)) = absurd (g.none_before f.at f.object x lt f.there f.is)
      by (inr (inr lt)) = absurd (f.none_before g.at g.object y lt g.there g.is)

pub no_first : {X : Type 0} (Is : Object → X → Type 0) (objects : List Object) (x : X) → First Is objects x → Never Is objects → ⊥
no_first Is objects x f never = never f.at f.object x f.there f.is

one_word : (t : Tables) (o : Object) (v w : Word) → LacksInterface t o v → LacksInterface t o w → v ≡ w
one_word t (store i k) v w p q = p.0 ∙ sym q.0
one_word t (echo i k) v w p q = p.0 ∙ sym q.0
one_word t (locator i) v w p q = absurd p
one_word t (place i k) v w p q = absurd p
one_word t (adapter i k) v w p q = absurd p

one_place : (o : Object) (m n : ℕ) → Breaks o m → Breaks o n → m ≡ n
one_place (store i k) m n p q = cc (p, q)
one_place (echo i k) m n p q = cc (p, q)
one_place (locator i) m n p q = cc (p, q)
one_place (place i k) m n (inl p) (inl q) = cc (p, q)
one_place (place i k) m n (inl p) (inr q) = cc (p, q.1)
one_place (place i k) m n (inr p) (inl q) = cc (p.1, q)
one_place (place i k) m n (inr p) (inr q) = cc (p.2, q.2)
one_place (adapter i k) m n p q = cc (p, q)

-- ---- a step of two answers: where both go on, they go on alike

schema_apart : (files : Files) (file : Word) (a b : Answer) (Next Other : Tables → Type 0) → ((t : Tables) → Next t → Other t → a ≡ b) → WithSchema (Some files) file a Next → WithSchema (Some files) file b Other → a ≡ b
schema_apart files file a b Next Other one (inl p) (inl q) = p.2 ∙ ap slice_refused (one_break files file p.0 q.0 p.1 q.1) ∙ sym q.2
schema_apart files file a b Next Other one (inl p) (inr q) = absurd (never_both files file q.0 p.0 q.1 p.1)
schema_apart files file a b Next Other one (inr p) (inl q) = absurd (never_both files file p.0 q.0 p.1 q.1)
schema_apart files file a b Next Other one (inr p) (inr q) = one q.0 (subst Next (one_meaning files file p.0 q.0 p.1 q.1) p.2) q.2

interfaces_apart : (t : Tables) (c : Serve) (a b : Answer) (Next Other : Type 0) → (Next → Other → a ≡ b) → WithInterfaces t c a Next → WithInterfaces t c b Other → a ≡ b
interfaces_apart t c a b Next Other one (inl p) (inl q) = p.2 ∙ ap no_such_name (first_once (LacksInterface t) (one_word t) c.objects p.0 q.0 p.1 q.1) ∙ sym q.2
interfaces_apart t c a b Next Other one (inl p) (inr q) = absurd (no_first (LacksInterface t) c.objects p.0 p.1 q.0)
interfaces_apart t c a b Next Other one (inr p) (inl q) = absurd (no_first (LacksInterface t) c.objects q.0 q.1 p.0)
interfaces_apart t c a b Next Other one (inr p) (inr q) = one p.1 q.1

texts_apart : (c : Serve) (a b : Answer) → WithTexts c a ⊥ → WithTexts c b ⊥ → a ≡ b
texts_apart c a b (inl p) (inl q) = p.2 ∙ ap text_refused (first_once Breaks one_place c.objects p.0 q.0 p.1 q.1) ∙ sym q.2
texts_apart c a b (inl p) (inr q) = absurd q.1
texts_apart c a b (inr p) q = absurd p.1

pub refused_once : (c : Serve) (files : Files) (a b : Answer) → Refuses c (Some files) a → Refuses c (Some files) b → a ≡ b
refused_once c files a b = schema_apart files c.file a b _ _ (λ t. interfaces_apart t c a b _ _ (texts_apart c a b))

-- ---- what is refused makes no objects

texts_or_objects : (c : Serve) (a : Answer) → WithTexts c a ⊥ → Never Breaks c.objects → ⊥
texts_or_objects c a (inl p) never = no_first Breaks c.objects p.0 p.1 never
texts_or_objects c a (inr p) never = p.1

words_or_objects : (t : Tables) (c : Serve) (a : Answer) → WithInterfaces t c a (WithTexts c a ⊥) → Never (LacksInterface t) c.objects → Never Breaks c.objects → ⊥
words_or_objects t c a (inl p) never reads = no_first (LacksInterface t) c.objects p.0 p.1 never
words_or_objects t c a (inr p) never reads = texts_or_objects c a p.1 reads

pub refused_or_set : (c : Serve) (files : Files) (a : Answer) (o : Objects) → Refuses c (Some files) a → Sets c (Some files) o → ⊥
refused_or_set c files a o (inl p) s = never_both files c.file s.0 p.0 s.1 p.1
refused_or_set c files a o (inr p) s =
    words_or_objects s.0 c a (subst (λ (t : Tables). WithInterfaces t c a (WithTexts c a ⊥)) (one_meaning files c.file p.0 s.0 p.1 s.1) p.2) s.2 s.3

pub are_single : AreSingle
are_single c files = (refused_once c files, refused_or_set c files)
