use Rattle.ice_encoding.specs.CanonicalGraph.{flags_byte}
use Rattle.ice_encoding.specs.Flags.{IdForm}
use Rattle.std.proofs.Common.{ℕ}
use Rattle.instance_writing.proofs.WrittenIds.{told_small, number_put, text_put, exception_put}
use Rattle.instance_writing.proofs.head.put_head.Goals as goal

pub put_number_head-requires : goal.put_number_head-requires
put_number_head-requires c = told_small c.args.sort c.args.id c.in-Number.number c.requires.told c.in-Number.is

pub returns-in-Number : goal.returns-in-Number
returns-in-Number c =
    let flags : IdForm → ℕ = λ form. flags_byte form c.args.flags.has_optional c.args.flags.has_table c.args.flags.has_size c.args.flags.is_last in
    number_put flags c.put_number_head.result c.args.pen.now c.args.out.now.items c.put_number_head.new.out.items c.args.sort c.args.id c.in-Number.number c.requires.told c.in-Number.is c.put_number_head.ensures

pub returns-in-Class : goal.returns-in-Class
returns-in-Class c =
    let flags : IdForm → ℕ = λ form. flags_byte form c.args.flags.has_optional c.args.flags.has_table c.args.flags.has_size c.args.flags.is_last in
    text_put flags c.put_class_head.result c.args.pen.now c.args.out.now.items c.put_class_head.new.out.items c.args.sort c.args.id c.in-Text.id c.put_class_head.new.pen c.requires.told c.in-Text.is c.in-Class.is c.put_class_head.ensures

pub returns-in-Exception : goal.returns-in-Exception
returns-in-Exception c =
    let flags : IdForm → ℕ = λ form. flags_byte form c.args.flags.has_optional c.args.flags.has_table c.args.flags.has_size c.args.flags.is_last in
    exception_put flags c.put_exception_head.result c.args.pen.now c.args.out.now.items c.put_exception_head.new.out.items c.args.sort c.args.id c.in-Text.id c.in-Text.is c.in-Exception.is c.put_exception_head.ensures
