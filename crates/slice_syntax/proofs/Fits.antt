-- The repeated parts of Slice are read with one token ahead.
use Rattle.std.proofs.Common.{◌≡◌, true, refl}
use Rattle.slice_syntax.specs.declared.terminal.Terminal.TheVariants as terminals
use Rattle.slice_syntax.specs.Grammar.{many, series, one, ◌▸◌}
use Rattle.slice_syntax.specs.Terminals.{comma, colons, open_square, close_square}
use Rattle.slice_syntax.specs.Rules.{word, name, texts, file_metadata, metadata, names, scoped, plain_type, object_type, named_type, type_word, signed_number, number, text, truth, named, value, given, tag, close, constant_item, entry, entry_comma, entries, enum_item, member, members, struct_item, sequence_item, dictionary_item, tagged_member, tagged_members, body, base, compact, class_body, class_item, exception_item, paths, bases, thrown, parameter, parameter_list, parameters, answered, operation, operations, interface_body, interface_item, definition, Entry}
use Rattle.slice_syntax.proofs.Fitting.{fits}

pub fits_texts : fits (many (one comma ▸ one terminals.Text)) ≡ true
unfolding word name texts file_metadata metadata names scoped plain_type object_type named_type type_word signed_number number text truth named value given tag close constant_item entry entry_comma entries enum_item member members struct_item sequence_item dictionary_item tagged_member tagged_members body base compact class_body class_item exception_item paths bases thrown parameter parameter_list parameters answered operation operations interface_body interface_item definition
fits_texts = refl

pub fits_metadata : fits (many (one open_square ▸ texts ▸ one close_square)) ≡ true
unfolding word name texts file_metadata metadata names scoped plain_type object_type named_type type_word signed_number number text truth named value given tag close constant_item entry entry_comma entries enum_item member members struct_item sequence_item dictionary_item tagged_member tagged_members body base compact class_body class_item exception_item paths bases thrown parameter parameter_list parameters answered operation operations interface_body interface_item definition
fits_metadata = refl

pub fits_names : fits (many (one colons ▸ name)) ≡ true
unfolding word name texts file_metadata metadata names scoped plain_type object_type named_type type_word signed_number number text truth named value given tag close constant_item entry entry_comma entries enum_item member members struct_item sequence_item dictionary_item tagged_member tagged_members body base compact class_body class_item exception_item paths bases thrown parameter parameter_list parameters answered operation operations interface_body interface_item definition
fits_names = refl

pub fits_words : fits (many (one colons ▸ word)) ≡ true
unfolding word name texts file_metadata metadata names scoped plain_type object_type named_type type_word signed_number number text truth named value given tag close constant_item entry entry_comma entries enum_item member members struct_item sequence_item dictionary_item tagged_member tagged_members body base compact class_body class_item exception_item paths bases thrown parameter parameter_list parameters answered operation operations interface_body interface_item definition
fits_words = refl

pub fits_members : fits (many member) ≡ true
unfolding word name texts file_metadata metadata names scoped plain_type object_type named_type type_word signed_number number text truth named value given tag close constant_item entry entry_comma entries enum_item member members struct_item sequence_item dictionary_item tagged_member tagged_members body base compact class_body class_item exception_item paths bases thrown parameter parameter_list parameters answered operation operations interface_body interface_item definition
fits_members = refl

pub fits_tagged_members : fits (many tagged_member) ≡ true
unfolding word name texts file_metadata metadata names scoped plain_type object_type named_type type_word signed_number number text truth named value given tag close constant_item entry entry_comma entries enum_item member members struct_item sequence_item dictionary_item tagged_member tagged_members body base compact class_body class_item exception_item paths bases thrown parameter parameter_list parameters answered operation operations interface_body interface_item definition
fits_tagged_members = refl

pub fits_operations : fits (many operation) ≡ true
unfolding word name texts file_metadata metadata names scoped plain_type object_type named_type type_word signed_number number text truth named value given tag close constant_item entry entry_comma entries enum_item member members struct_item sequence_item dictionary_item tagged_member tagged_members body base compact class_body class_item exception_item paths bases thrown parameter parameter_list parameters answered operation operations interface_body interface_item definition
fits_operations = refl

pub fits_paths : fits (many (one comma ▸ scoped)) ≡ true
unfolding word name texts file_metadata metadata names scoped plain_type object_type named_type type_word signed_number number text truth named value given tag close constant_item entry entry_comma entries enum_item member members struct_item sequence_item dictionary_item tagged_member tagged_members body base compact class_body class_item exception_item paths bases thrown parameter parameter_list parameters answered operation operations interface_body interface_item definition
fits_paths = refl

pub fits_parameters : fits (many (one comma ▸ parameter)) ≡ true
unfolding word name texts file_metadata metadata names scoped plain_type object_type named_type type_word signed_number number text truth named value given tag close constant_item entry entry_comma entries enum_item member members struct_item sequence_item dictionary_item tagged_member tagged_members body base compact class_body class_item exception_item paths bases thrown parameter parameter_list parameters answered operation operations interface_body interface_item definition
fits_parameters = refl

pub fits_entries : fits (series (λ (e : Entry). e.1) entry_comma) ≡ true
unfolding word name texts file_metadata metadata names scoped plain_type object_type named_type type_word signed_number number text truth named value given tag close constant_item entry entry_comma entries enum_item member members struct_item sequence_item dictionary_item tagged_member tagged_members body base compact class_body class_item exception_item paths bases thrown parameter parameter_list parameters answered operation operations interface_body interface_item definition
fits_entries = refl
