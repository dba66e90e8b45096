use Rattle.std.proofs.Common.{sym, subst, ◌∙◌}
use Rattle.slice_syntax.specs.Grammar.{or}
use Rattle.slice_syntax.specs.Reading.{Reading}
use Rattle.slice_syntax.specs.Taking.{Takes}
use Rattle.slice_syntax.specs.Rules.{definition, constant_item, enum_item, struct_item, sequence_item, dictionary_item, class_item, exception_item, interface_item}
use Rattle.slice_syntax.specs.declared.tree.Item.{Item}
use Rattle.slice_syntax.proofs.Starts.{starts_constant_item, starts_enum_item, starts_struct_item, starts_sequence_item, starts_dictionary_item, starts_class_item, starts_exception_item, or_first, or_second}
use Rattle.slice_syntax.proofs.definitions.definition.Goals as goal

pub returns-then-begins : goal.returns-then-begins
unfolding definition
returns-then-begins c =
    subst (λ (r : Reading Item). Takes (λ x. x) c.constant.result c.constant.new.cursor r)
    (sym (or_first constant_item (or enum_item (or struct_item (or sequence_item (or dictionary_item (or class_item (or exception_item interface_item)))))) _ c.args.cursor.now starts_constant_item (sym c.begins.ensures ∙ c.if-begins.true))) c.constant.ensures

pub returns-then-begins-2 : goal.returns-then-begins-2
unfolding definition
returns-then-begins-2 c =
    subst (λ (r : Reading Item). Takes (λ x. x) c.enumeration.result c.enumeration.new.cursor r)
    (sym (or_second constant_item (or enum_item (or struct_item (or sequence_item (or dictionary_item (or class_item (or exception_item interface_item)))))) _ c.args.cursor.now starts_constant_item (sym c.begins.ensures ∙ c.if-begins.false)
    ∙ or_first enum_item (or struct_item (or sequence_item (or dictionary_item (or class_item (or exception_item interface_item))))) _ c.args.cursor.now starts_enum_item (sym c.begins-2.ensures ∙ c.if-begins-2.true))) c.enumeration.ensures

pub returns-then-begins-3 : goal.returns-then-begins-3
unfolding definition
returns-then-begins-3 c =
    subst (λ (r : Reading Item). Takes (λ x. x) c.structure.result c.structure.new.cursor r)
    (sym (or_second constant_item (or enum_item (or struct_item (or sequence_item (or dictionary_item (or class_item (or exception_item interface_item)))))) _ c.args.cursor.now starts_constant_item (sym c.begins.ensures ∙ c.if-begins.false)
    ∙ or_second enum_item (or struct_item (or sequence_item (or dictionary_item (or class_item (or exception_item interface_item))))) _ c.args.cursor.now starts_enum_item (sym c.begins-2.ensures ∙ c.if-begins-2.false)
    ∙ or_first struct_item (or sequence_item (or dictionary_item (or class_item (or exception_item interface_item)))) _ c.args.cursor.now starts_struct_item (sym c.begins-3.ensures ∙ c.if-begins-3.true))) c.structure.ensures

pub returns-then-begins-4 : goal.returns-then-begins-4
unfolding definition
returns-then-begins-4 c =
    subst (λ (r : Reading Item). Takes (λ x. x) c.sequence.result c.sequence.new.cursor r)
    (sym (or_second constant_item (or enum_item (or struct_item (or sequence_item (or dictionary_item (or class_item (or exception_item interface_item)))))) _ c.args.cursor.now starts_constant_item (sym c.begins.ensures ∙ c.if-begins.false)
    ∙ or_second enum_item (or struct_item (or sequence_item (or dictionary_item (or class_item (or exception_item interface_item))))) _ c.args.cursor.now starts_enum_item (sym c.begins-2.ensures ∙ c.if-begins-2.false)
    ∙ or_second struct_item (or sequence_item (or dictionary_item (or class_item (or exception_item interface_item)))) _ c.args.cursor.now starts_struct_item (sym c.begins-3.ensures ∙ c.if-begins-3.false)
    ∙ or_first sequence_item (or dictionary_item (or class_item (or exception_item interface_item))) _ c.args.cursor.now starts_sequence_item (sym c.begins-4.ensures ∙ c.if-begins-4.true))) c.sequence.ensures

pub returns-then-begins-5 : goal.returns-then-begins-5
unfolding definition
returns-then-begins-5 c =
    subst (λ (r : Reading Item). Takes (λ x. x) c.dictionary.result c.dictionary.new.cursor r)
    (sym (or_second constant_item (or enum_item (or struct_item (or sequence_item (or dictionary_item (or class_item (or exception_item interface_item)))))) _ c.args.cursor.now starts_constant_item (sym c.begins.ensures ∙ c.if-begins.false)
    ∙ or_second enum_item (or struct_item (or sequence_item (or dictionary_item (or class_item (or exception_item interface_item))))) _ c.args.cursor.now starts_enum_item (sym c.begins-2.ensures ∙ c.if-begins-2.false)
    ∙ or_second struct_item (or sequence_item (or dictionary_item (or class_item (or exception_item interface_item)))) _ c.args.cursor.now starts_struct_item (sym c.begins-3.ensures ∙ c.if-begins-3.false)
    ∙ or_second sequence_item (or dictionary_item (or class_item (or exception_item interface_item))) _ c.args.cursor.now starts_sequence_item (sym c.begins-4.ensures ∙ c.if-begins-4.false)
    ∙ or_first dictionary_item (or class_item (or exception_item interface_item)) _ c.args.cursor.now starts_dictionary_item (sym c.begins-5.ensures ∙ c.if-begins-5.true))) c.dictionary.ensures

pub returns-then-begins-6 : goal.returns-then-begins-6
unfolding definition
returns-then-begins-6 c =
    subst (λ (r : Reading Item). Takes (λ x. x) c.class.result c.class.new.cursor r)
    (sym (or_second constant_item (or enum_item (or struct_item (or sequence_item (or dictionary_item (or class_item (or exception_item interface_item)))))) _ c.args.cursor.now starts_constant_item (sym c.begins.ensures ∙ c.if-begins.false)
    ∙ or_second enum_item (or struct_item (or sequence_item (or dictionary_item (or class_item (or exception_item interface_item))))) _ c.args.cursor.now starts_enum_item (sym c.begins-2.ensures ∙ c.if-begins-2.false)
    ∙ or_second struct_item (or sequence_item (or dictionary_item (or class_item (or exception_item interface_item)))) _ c.args.cursor.now starts_struct_item (sym c.begins-3.ensures ∙ c.if-begins-3.false)
    ∙ or_second sequence_item (or dictionary_item (or class_item (or exception_item interface_item))) _ c.args.cursor.now starts_sequence_item (sym c.begins-4.ensures ∙ c.if-begins-4.false)
    ∙ or_second dictionary_item (or class_item (or exception_item interface_item)) _ c.args.cursor.now starts_dictionary_item (sym c.begins-5.ensures ∙ c.if-begins-5.false)
    ∙ or_first class_item (or exception_item interface_item) _ c.args.cursor.now starts_class_item (sym c.begins-6.ensures ∙ c.if-begins-6.true))) c.class.ensures

pub returns-then-begins-7 : goal.returns-then-begins-7
unfolding definition
returns-then-begins-7 c =
    subst (λ (r : Reading Item). Takes (λ x. x) c.exception.result c.exception.new.cursor r)
    (sym (or_second constant_item (or enum_item (or struct_item (or sequence_item (or dictionary_item (or class_item (or exception_item interface_item)))))) _ c.args.cursor.now starts_constant_item (sym c.begins.ensures ∙ c.if-begins.false)
    ∙ or_second enum_item (or struct_item (or sequence_item (or dictionary_item (or class_item (or exception_item interface_item))))) _ c.args.cursor.now starts_enum_item (sym c.begins-2.ensures ∙ c.if-begins-2.false)
    ∙ or_second struct_item (or sequence_item (or dictionary_item (or class_item (or exception_item interface_item)))) _ c.args.cursor.now starts_struct_item (sym c.begins-3.ensures ∙ c.if-begins-3.false)
    ∙ or_second sequence_item (or dictionary_item (or class_item (or exception_item interface_item))) _ c.args.cursor.now starts_sequence_item (sym c.begins-4.ensures ∙ c.if-begins-4.false)
    ∙ or_second dictionary_item (or class_item (or exception_item interface_item)) _ c.args.cursor.now starts_dictionary_item (sym c.begins-5.ensures ∙ c.if-begins-5.false)
    ∙ or_second class_item (or exception_item interface_item) _ c.args.cursor.now starts_class_item (sym c.begins-6.ensures ∙ c.if-begins-6.false)
    ∙ or_first exception_item (interface_item) _ c.args.cursor.now starts_exception_item (sym c.begins-7.ensures ∙ c.if-begins-7.true))) c.exception.ensures

pub returns : goal.returns
unfolding definition
returns c =
    subst (λ (r : Reading Item). Takes (λ x. x) c.interface.result c.interface.new.cursor r)
    (sym (or_second constant_item (or enum_item (or struct_item (or sequence_item (or dictionary_item (or class_item (or exception_item interface_item)))))) _ c.args.cursor.now starts_constant_item (sym c.begins.ensures ∙ c.if-begins.false)
    ∙ or_second enum_item (or struct_item (or sequence_item (or dictionary_item (or class_item (or exception_item interface_item))))) _ c.args.cursor.now starts_enum_item (sym c.begins-2.ensures ∙ c.if-begins-2.false)
    ∙ or_second struct_item (or sequence_item (or dictionary_item (or class_item (or exception_item interface_item)))) _ c.args.cursor.now starts_struct_item (sym c.begins-3.ensures ∙ c.if-begins-3.false)
    ∙ or_second sequence_item (or dictionary_item (or class_item (or exception_item interface_item))) _ c.args.cursor.now starts_sequence_item (sym c.begins-4.ensures ∙ c.if-begins-4.false)
    ∙ or_second dictionary_item (or class_item (or exception_item interface_item)) _ c.args.cursor.now starts_dictionary_item (sym c.begins-5.ensures ∙ c.if-begins-5.false)
    ∙ or_second class_item (or exception_item interface_item) _ c.args.cursor.now starts_class_item (sym c.begins-6.ensures ∙ c.if-begins-6.false)
    ∙ or_second exception_item (interface_item) _ c.args.cursor.now starts_exception_item (sym c.begins-7.ensures ∙ c.if-begins-7.false))) c.interface.ensures
