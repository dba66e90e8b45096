use Rattle.std.proofs.Common.{None}
use Rattle.ice_types.specs.declared.kind.TypeRef.TheVariants as kinds
use Rattle.ice_types.proofs.Naming.{names_only, id_named, id_only}
use Rattle.ice_types.proofs.schema.Schema.type_named.Goals as goal

pub returns-in-bool-clause-only : goal.returns-in-bool-clause-only
returns-in-bool-clause-only c = names_only c.args.self.now c.rules.ensures c.args.text.now kinds.Bool c.in-bool.is

pub returns-in-byte-clause-only : goal.returns-in-byte-clause-only
returns-in-byte-clause-only c = names_only c.args.self.now c.rules.ensures c.args.text.now kinds.Byte c.in-byte.is

pub returns-in-short-clause-only : goal.returns-in-short-clause-only
returns-in-short-clause-only c = names_only c.args.self.now c.rules.ensures c.args.text.now kinds.Short c.in-short.is

pub returns-in-int-clause-only : goal.returns-in-int-clause-only
returns-in-int-clause-only c = names_only c.args.self.now c.rules.ensures c.args.text.now kinds.Int c.in-int.is

pub returns-in-long-clause-only : goal.returns-in-long-clause-only
returns-in-long-clause-only c = names_only c.args.self.now c.rules.ensures c.args.text.now kinds.Long c.in-long.is

pub returns-in-string-clause-only : goal.returns-in-string-clause-only
returns-in-string-clause-only c = names_only c.args.self.now c.rules.ensures c.args.text.now kinds.Text c.in-string.is

pub returns-in-Object-clause-only : goal.returns-in-Object-clause-only
returns-in-Object-clause-only c = names_only c.args.self.now c.rules.ensures c.args.text.now (kinds.Class None) c.in-Object.is

pub returns-in-text-clause-only : goal.returns-in-text-clause-only
returns-in-text-clause-only c = names_only c.args.self.now c.rules.ensures c.args.text.now (kinds.Proxy None) c.in-text.is

pub returns-in_default-clause-named : goal.returns-in_default-clause-named
returns-in_default-clause-named c =
    let other = c.in_default in
    id_named c.args.self.now c.args.text.now other.not-bool other.not-byte other.not-short other.not-int other.not-long other.not-string other.not-Object other.not-text c.type_of_id.result c.type_of_id.ensures

pub returns-in_default-clause-only : goal.returns-in_default-clause-only
returns-in_default-clause-only c =
    let other = c.in_default in
    id_only c.args.self.now c.args.text.now other.not-bool other.not-byte other.not-short other.not-int other.not-long other.not-string other.not-Object other.not-text c.rules.ensures c.type_of_id.result c.type_of_id.ensures

pub returns-in-bool-clause-named : goal.returns-in-bool-clause-named
returns-in-bool-clause-named c = c.in-bool.is

pub returns-in-byte-clause-named : goal.returns-in-byte-clause-named
returns-in-byte-clause-named c = c.in-byte.is

pub returns-in-short-clause-named : goal.returns-in-short-clause-named
returns-in-short-clause-named c = c.in-short.is

pub returns-in-int-clause-named : goal.returns-in-int-clause-named
returns-in-int-clause-named c = c.in-int.is

pub returns-in-long-clause-named : goal.returns-in-long-clause-named
returns-in-long-clause-named c = c.in-long.is

pub returns-in-string-clause-named : goal.returns-in-string-clause-named
returns-in-string-clause-named c = c.in-string.is

pub returns-in-Object-clause-named : goal.returns-in-Object-clause-named
returns-in-Object-clause-named c = c.in-Object.is

pub returns-in-text-clause-named : goal.returns-in-text-clause-named
returns-in-text-clause-named c = c.in-text.is
