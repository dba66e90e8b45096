-- Tables of names, each with its place as its code.
use Rattle.std.specs.Prelude.{ℕ, Bool, true, not, ◌&&◌, List, [], ◌∷◌, map, codes}
use Rattle.std.specs.Borrow.{Bor}
use Rattle.std.specs.List.{list_any}
use Rattle.std.specs.Str.{bytes_eq}

-- a name by its bytes
abbrev pub Name : Type 0
Name = List ℕ

-- the names as they are written, wherever they lie in memory
abbrev pub names_seen : List (Bor Name) → List Name
names_seen rows = map (λ row. row.now) rows

-- no name is written twice
abbrev pub are_distinct : List Name → Bool
are_distinct [] = true
are_distinct (name ∷ names) = not (list_any (bytes_eq name) names) && are_distinct names

-- the words of Slice that are no identifiers: "The Slice Language" of the Ice manual, "Lexical Rules", "Keywords"
abbrev pub keyword_names : List Name
keyword_names = codes "bool" ∷ codes "byte" ∷ codes "class" ∷ codes "const" ∷ codes "dictionary" ∷ codes "double" ∷ codes "enum" ∷ codes "exception"
    ∷ codes "extends" ∷ codes "false" ∷ codes "float" ∷ codes "idempotent" ∷ codes "implements" ∷ codes "int" ∷ codes "interface" ∷ codes "local"
    ∷ codes "LocalObject" ∷ codes "long" ∷ codes "module" ∷ codes "Object" ∷ codes "optional" ∷ codes "out" ∷ codes "sequence" ∷ codes "short"
    ∷ codes "string" ∷ codes "struct" ∷ codes "throws" ∷ codes "true" ∷ codes "Value" ∷ codes "void" ∷ []

-- the symbols of Slice
abbrev pub symbol_names : List Name
symbol_names = codes "{" ∷ codes "}" ∷ codes "(" ∷ codes ")" ∷ codes "<" ∷ codes ">" ∷ codes "[" ∷ codes "]" ∷ codes "[[" ∷ codes "]]"
    ∷ codes "," ∷ codes ";" ∷ codes "::" ∷ codes "=" ∷ codes "*" ∷ codes "+" ∷ codes "-" ∷ []
