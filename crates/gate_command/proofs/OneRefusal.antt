-- At most one answer refuses, one gate is set, and not both.
use Rattle.std.proofs.Common.{◌≡◌, ℕ, Some, Result, Ok, Err, sym, ap, subst, ◌∙◌, inl, inr}
use Rattle.ice_types.specs.declared.proxy.Proxy.{Proxy}
use Rattle.ice_types.specs.Tables.{Tables}
use Rattle.ice_gateway.specs.Gate.{Gate}
use Rattle.ice_proxy.specs.Grammar.{proxy_text}
use Rattle.slice_meaning.proofs.Loads.{one_meaning, one_break, never_both}
use Rattle.node_commands.specs.Words.{Word}
use Rattle.node_commands.specs.Outside.{Files}
use Rattle.node_commands.specs.Answers.{Answer, slice_refused, text_refused}
use Rattle.node_commands.specs.Decided.{WithSchema}
use Rattle.node_commands.specs.Interfaces.{IsInterface}
use Rattle.gate_command.specs.Words.{GateWords}
use Rattle.gate_command.specs.Decided.{IsListed, WithListed, WithInterface, WithProxy, Refuses, Sets, gate_with}
use Rattle.gate_command.specs.Laws.{AreSingle}

-- ---- what was parsed is one

ok_same : (parsed : Result Proxy ℕ) (p q : Proxy) → parsed ≡ Ok p → parsed ≡ Ok q → p ≡ q
ok_same parsed p q e f = cc (e, f)

err_same : (parsed : Result Proxy ℕ) (m n : ℕ) → parsed ≡ Err m → parsed ≡ Err n → m ≡ n
err_same parsed m n e f = cc (e, f)

never_ok : (parsed : Result Proxy ℕ) (p : Proxy) (n : ℕ) → parsed ≡ Ok p → parsed ≡ Err n → ⊥
never_ok parsed p n e f = cc (e, f)

-- ---- a step of two answers: where both go on, they go on alike

listed_apart : (parsed : Result Proxy ℕ) (a b : Answer) (Next Other : Type 0) → (Next → Other → a ≡ b) → WithListed parsed a Next → WithListed parsed b Other → a ≡ b
listed_apart parsed a b Next Other one (inl p) (inl q) = p.1 ∙ sym q.1
listed_apart parsed a b Next Other one (inl p) (inr q) = absurd (p.0 q.0)
listed_apart parsed a b Next Other one (inr p) (inl q) = absurd (q.0 p.0)
listed_apart parsed a b Next Other one (inr p) (inr q) = one p.1 q.1

schema_apart : (files : Files) (file : Word) (a b : Answer) (Next Other : Tables → Type 0) → ((t : Tables) → Next t → Other t → a ≡ b) → WithSchema (Some files) file a Next → WithSchema (Some files) file b Other → a ≡ b
schema_apart files file a b Next Other one (inl p) (inl q) = p.2 ∙ ap slice_refused (one_break files file p.0 q.0 p.1 q.1) ∙ sym q.2
schema_apart files file a b Next Other one (inl p) (inr q) = absurd (never_both files file q.0 p.0 q.1 p.1)
schema_apart files file a b Next Other one (inr p) (inl q) = absurd (never_both files file p.0 q.0 p.1 q.1)
schema_apart files file a b Next Other one (inr p) (inr q) = one q.0 (subst Next (one_meaning files file p.0 q.0 p.1 q.1) p.2) q.2

interface_apart : (t : Tables) (word : Word) (a b : Answer) (Next Other : ℕ → Type 0) → ((at : ℕ) → Next at → Other at → a ≡ b) → WithInterface t word a Next → WithInterface t word b Other → a ≡ b
interface_apart t word a b Next Other one (inl p) (inl q) = p.1 ∙ sym q.1
interface_apart t word a b Next Other one (inl p) (inr q) = absurd (p.0 q.0 q.1.0)
interface_apart t word a b Next Other one (inr p) (inl q) = absurd (q.0 p.0 p.1.0)
interface_apart t word a b Next Other one (inr p) (inr q) = one q.0 (subst Next (q.1.1 p.0 p.1.0) p.2) q.2

proxy_apart : (parsed : Result Proxy ℕ) (a b : Answer) → WithProxy parsed a (λ p. ⊥) → WithProxy parsed b (λ p. ⊥) → a ≡ b
proxy_apart parsed a b (inl p) (inl q) = p.2 ∙ ap text_refused (err_same parsed p.0 q.0 p.1 q.1) ∙ sym q.2
proxy_apart parsed a b (inl p) (inr q) = absurd q.2
proxy_apart parsed a b (inr p) q = absurd p.2

pub refused_once : (c : GateWords) (files : Files) (a b : Answer) → Refuses c (Some files) a → Refuses c (Some files) b → a ≡ b
refused_once c files a b = listed_apart (proxy_text c.proxy) a b _ _
    (schema_apart files c.file a b _ _ (λ t. interface_apart t c.interface a b _ _ (λ at. proxy_apart (proxy_text c.proxy) a b)))

-- ---- the gate

-- by parts that are the same
set_once : (c : GateWords) (files : Files) (g h : Gate) → Sets c (Some files) g → Sets c (Some files) h → g ≡ h
set_once c files g h s u =
    let tables : s.tables ≡ u.tables = one_meaning files c.file s.tables u.tables s.loads u.loads in
    let at : s.interface ≡ u.interface = u.names.1 s.interface (subst (λ (t : Tables). IsInterface t c.interface s.interface) tables s.names).0 in
    let upstream : s.upstream ≡ u.upstream = ok_same (proxy_text c.proxy) s.upstream u.upstream s.reads u.reads in
    s.gate_is ∙ (λ i. gate_with c (tables i) (at i) (upstream i)) ∙ sym u.gate_is

-- ---- what is refused sets no gate

module _ (c : GateWords) (files : Files) (a : Answer) (g : Gate) (s : Sets c (Some files) g) where
  listed_so : IsListed (proxy_text c.proxy)
  listed_so = subst IsListed (sym s.reads) s.listed

  by_interface : WithInterface s.tables c.interface a (λ at. WithProxy (proxy_text c.proxy) a (λ p. ⊥)) → ⊥
  by_interface (inl p) = p.0 s.interface s.names.0
  by_interface (inr (at, is, inl p)) = never_ok (proxy_text c.proxy) s.upstream p.0 s.reads p.1
  by_interface (inr (at, is, inr p)) = p.2

  pub refused_or_set : Refuses c (Some files) a → ⊥
  refused_or_set (inl p) = p.0 listed_so
  refused_or_set (inr (listed, inl p)) = never_both files c.file s.tables p.0 s.loads p.1
  refused_or_set (inr (listed, inr p)) =
      by_interface (subst (λ (t : Tables). WithInterface t c.interface a (λ at. WithProxy (proxy_text c.proxy) a (λ q. ⊥))) (one_meaning files c.file p.0 s.tables p.1 s.loads) p.2)

pub are_single : AreSingle
are_single c files = (refused_once c files, set_once c files, λ a g refuses sets. refused_or_set c files a g sets refuses)
