use Rattle.std.proofs.Common.{List, ◌++◌, ap, ◌∙◌}
use Rattle.fr_links.specs.declared.links.Link.{Link}
use Rattle.fr_links.specs.Links.{dynamic_links, links, static_links}
use Rattle.fr_links.proofs.links.links_of.Goals as goal

pub returns : goal.returns
unfolding links
returns c =
    let d = c.args.cluster.now in
    c.in_ok-push_nodes.ensures
    ∙ ap (λ (found : List Link). found ++ dynamic_links d)
    (c.in_ok-push_static.ensures ∙ ap (λ (found : List Link). found ++ static_links d) c.new-links.ensures.items)
