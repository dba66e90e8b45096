-- The two formats.
use Rattle.ice_encoding.specs.CanonicalGraph.{sliced, compact}
use Rattle.ice_encoding.specs.CanonicalGraph as canonical
use Rattle.instance_writing.specs.declared.format.Format.{Format}
use Rattle.instance_writing.specs.declared.format.Format.TheVariants.{Sliced, Compact}

-- sliced or compact, as the definitions have it
abbrev pub view_format : Format → canonical.Format
view_format Sliced = sliced
view_format Compact = compact
