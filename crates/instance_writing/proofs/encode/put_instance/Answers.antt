use Rattle.std.proofs.Common.{◌≡◌, List, [], ◌∷◌, ◌++◌, length, refl, sym, ap, subst, ◌∙◌, arith}
use Rattle.ice_encoding.specs.Instances.{slices_of}
use Rattle.graph_arena.specs.Seen.{view_slices}
use Rattle.instance_writing.specs.declared.open_slice.OpenSlice.TheVariants as opens
use Rattle.instance_writing.specs.declared.unfinished.Unfinished.{Unfinished}
use Rattle.instance_writing.specs.Formats.{view_format}
use Rattle.instance_writing.specs.Remains.{AllFit}
use Rattle.instance_writing.proofs.Stacks.{one-begins, fresh-fits}
use Rattle.instance_writing.proofs.encode.put_instance.Goals as goal

pub loop-top-init : goal.loop-top-init
loop-top-init c =
    let one : c.push.new.self ≡ c.new.result ∷ [] = c.in_ok-push.ensures.ok ∙ ap (λ (l : List Unfinished). l ++ c.new.result ∷ []) c.new-stack.ensures in
    let fresh : (c.new.result.current ≡ opens.Nothing) × (view_slices c.new.result.slices.now ≡ slices_of c.args.graph.now.instances c.args.name) = (c.new.ensures.current, ap view_slices c.new.ensures.slices ∙ c.slices_of.ensures.slices) in
    record {
      left = one-begins c.args.by.now.schema.now (view_format c.args.by.now.format) c.args.graph.now c.push.new.self c.new.result c.args.name (c.args.pen.now, c.args.out.now.items) one fresh;
      fits = subst (λ (us : List Unfinished). AllFit c.args.by.now.schema.now (length c.args.graph.now.instances) us c.args.out.now.items) (sym one) (fresh-fits c.args.by.now.schema.now c.args.graph.now c.new.result c.args.name c.args.out.now.items fresh c.slices_of.ensures.names c.requires.fits, tt);
      deep = omega (arith, ap (length {A = Unfinished}) one, c.requires.begun);
      desk = refl;
      room = omega arith;
    }
