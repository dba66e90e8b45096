use Rattle.std.proofs.Common.{rules, ◌≡◌, ◌∙◌, ◌-◌, length, take, drop, refl, subst, Ok, Err, None, Some, Option, ℕ, List}
use Rattle.ice_prims.specs.declared.fault.ReadFault.{ReadFault}
use Rattle.ice_prims.specs.declared.fault.ReadFault.TheVariants.{Broken}
use Rattle.ice_prims.specs.Rest.{after, whole}
use Rattle.ice_messages.specs.declared.message.Message.{Message}
use Rattle.ice_messages.specs.Next.{IsNext}
use Rattle.ice_messages.proofs.Nexts.{cut_all}
use Rattle.ice_messages.proofs.frames.Frames.next.Goals as goal

pub returns-in-Ok-Some : goal.returns-in-Ok-Some
returns-in-Ok-Some c =
    let bytes : List ℕ = take (length c.deref.result.now - c.self.inside.head) (drop c.self.inside.head c.deref.result.now) in
    let held : drop c.self.inside.head c.deref.result.now ≡ c.args.self.now.bytes = search rules in
    let same : bytes ≡ c.args.self.now.bytes = cut_all c.deref.result.now c.self.inside.head ∙ held in
    let stands : IsNext (Ok (Some (c.in-Ok-Some.message, c.in-Ok-Some.length))) c.args.self.now.bytes =
    subst (IsNext (Ok (Some (c.in-Ok-Some.message, c.in-Ok-Some.length)))) same
    (subst (λ (x : Option (Message × ℕ)). IsNext (Ok x) bytes) c.in-Ok-Some.field-0-is c.in-Ok-Some.ensures) in
    (search rules, after (whole c.args.self.now.bytes) c.in-Ok-Some.length, stands.0.0, search rules, stands.0.2, stands.1, stands.2, stands.4)

pub returns-in-Ok-None : goal.returns-in-Ok-None
returns-in-Ok-None c =
    let bytes : List ℕ = take (length c.deref.result.now - c.self.inside.head) (drop c.self.inside.head c.deref.result.now) in
    let held : drop c.self.inside.head c.deref.result.now ≡ c.args.self.now.bytes = search rules in
    let same : bytes ≡ c.args.self.now.bytes = cut_all c.deref.result.now c.self.inside.head ∙ held in
    let stands : IsNext (Ok None) c.args.self.now.bytes =
    subst (IsNext (Ok None)) same (subst (λ (x : Option (Message × ℕ)). IsNext (Ok x) bytes) c.in-Ok-None.field-0-is c.in-Ok-None.ensures) in
    (search rules, stands.0, refl, stands.1)

pub returns-in-Err-Broken : goal.returns-in-Err-Broken
returns-in-Err-Broken c =
    let bytes : List ℕ = take (length c.deref.result.now - c.self.inside.head) (drop c.self.inside.head c.deref.result.now) in
    let held : drop c.self.inside.head c.deref.result.now ≡ c.args.self.now.bytes = search rules in
    let same : bytes ≡ c.args.self.now.bytes = cut_all c.deref.result.now c.self.inside.head ∙ held in
    let stands : IsNext (Err (Broken c.in-Err-Broken.fault)) c.args.self.now.bytes =
    subst (IsNext (Err (Broken c.in-Err-Broken.fault))) same (subst (λ (x : ReadFault). IsNext (Err x) bytes) c.in-Err-Broken.field-0-is c.in-Err-Broken.ensures) in
    let stopped : c.args.self.now.stopped ≡ None = search rules in
    (rw stopped stands.0, search rules, λ e. stands.1)
